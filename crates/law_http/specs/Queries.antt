-- What a query says: its pairs of names and values, decoded (URL Standard, section 5).
use Rattle.std.specs.Prelude.{ℕ, Bool, ◌&&◌, nat_le, bytes_eq, count_by, map, List, [], ◌∷◌, Option, None, Some, if◌then◌else◌}
use Rattle.std.specs.List.{list_all, list_any}
use Rattle.std.specs.Str.Lossy.{utf8_lossy}
use Rattle.std.specs.String.{string_bytes}
use Rattle.form_urlencoded.specs.Form.{raw_pairs, decode}
use Rattle.law_http.specs.declared.query.Pair.{Pair}

abbrev pub pair_view : Pair → List ℕ × List ℕ
pair_view pair = (string_bytes pair.name, string_bytes pair.value)

-- what a name or a value stands for; bytes that are not UTF-8 become replacement characters
abbrev pub text_of : List ℕ → List ℕ
text_of bytes = utf8_lossy (decode bytes)

-- the pairs of a query, in order
abbrev pub query_pairs : List ℕ → List (List ℕ × List ℕ)
query_pairs query = map (λ p. (text_of p.0, text_of p.1)) (raw_pairs query)

abbrev pub has_name : List ℕ → List ℕ × List ℕ → Bool
has_name name pair = bytes_eq pair.0 name

abbrev pub count_of : List ℕ → List (List ℕ × List ℕ) → ℕ
count_of name pairs = count_by (has_name name) pairs

abbrev pub is_among : List (List ℕ) → List ℕ → Bool
is_among names name = list_any (λ other. bytes_eq other name) names

-- each name is among these
abbrev pub has_no_other : List (List ℕ) → List (List ℕ × List ℕ) → Bool
has_no_other names pairs = list_all (λ pair. is_among names pair.0) pairs

-- none of these names is there twice
abbrev pub has_none_twice : List (List ℕ) → List (List ℕ × List ℕ) → Bool
has_none_twice names pairs = list_all (λ name. nat_le (count_of name pairs) 1) names

-- no name is unknown, and none is there twice
abbrev pub has_keys : List (List ℕ) → List (List ℕ × List ℕ) → Bool
has_keys names pairs = has_no_other names pairs && has_none_twice names pairs

-- the value of the first pair of that name
abbrev pub value_of : List ℕ → List (List ℕ × List ℕ) → Option (List ℕ)
value_of name [] = None
value_of name (pair ∷ pairs) = if has_name name pair then Some pair.1 else value_of name pairs
