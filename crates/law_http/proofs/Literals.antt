-- A router of routes without parameters leads from a path to the route of the same text, and from any other nowhere.
use Rattle.std.proofs.Common.{◌≡◌, ◌∙◌, sym, ap, refl, ℕ, zero, suc, ◌<◌, ◌≤◌, ◌==◌, ◌-◌, Bool, true, false, ◌&&◌, cond, List, [], ◌∷◌, length, nat_lt, Option, Some, None, inl, inr, arith}
use Rattle.std.specs.Prelude.{option_map}
use Rattle.std.proofs.lemmas.Bool.{cases_Bool, and_parts}
use Rattle.std.proofs.lemmas.Bool.Decides.{nat_tests}
use Rattle.matchit.specs.Order.{lookup}
use Rattle.matchit.specs.Rows.{RowsOf, param_token, catch_all_token}
use Rattle.matchit.specs.Seek.{first, has_slash, or_else, own, param_step, same_text, seek, step}

-- a pattern in which each token is a byte
abbrev pub are_bytes : List ℕ → Bool
are_bytes [] = true
are_bytes (x ∷ tokens) = nat_lt x param_token && are_bytes tokens

other_token : (x y : ℕ) → nat_lt x param_token ≡ true → param_token ≤ y → (x == y) ≡ false
other_token x y low high = grind (arith, nat_tests, low, high)

module _ {K : Type 0} where
  -- rows of such patterns
  abbrev pub are_literal : RowsOf K → Bool
  are_literal [] = true
  are_literal ((tokens, key) ∷ rest) = are_bytes tokens && are_literal rest

  -- no literal row goes on with a token that is no byte
  none_steps : (y : ℕ) (rows : RowsOf K) → param_token ≤ y → are_literal rows ≡ true → step y rows ≡ []
  none_steps y [] high literal = refl
  none_steps y (([], key) ∷ rest) high literal = none_steps y rest high literal
  none_steps y ((x ∷ tokens, key) ∷ rest) high literal =
      let parts = and_parts (nat_lt x param_token && are_bytes tokens) (are_literal rest) literal in
      ap (λ t. cond t ((tokens, key) ∷ step y rest) (step y rest)) (other_token x y (and_parts (nat_lt x param_token) (are_bytes tokens) parts.0).0 high)
      ∙ none_steps y rest high parts.1

  -- literal rows go on as literal rows
  literal_steps : (b : ℕ) (rows : RowsOf K) → are_literal rows ≡ true → are_literal (step b rows) ≡ true
  literal_steps b [] literal = refl
  literal_steps b (([], key) ∷ rest) literal = literal_steps b rest literal
  literal_steps b ((x ∷ tokens, key) ∷ rest) literal =
      let parts = and_parts (nat_lt x param_token && are_bytes tokens) (are_literal rest) literal in
      let later : are_literal (step b rest) ≡ true = literal_steps b rest parts.1 in
      elim (cases_Bool (x == b)) [
        | inl same ↦
            ap (λ t. are_literal (cond t ((tokens, key) ∷ step b rest) (step b rest))) same
            ∙ ap (λ t. t && are_literal (step b rest)) (and_parts (nat_lt x param_token) (are_bytes tokens) parts.0).1 ∙ later
        | inr other ↦ ap (λ t. are_literal (cond t ((tokens, key) ∷ step b rest) (step b rest))) other ∙ later
      ]

  -- from no rows nothing is found
  no_param : (path : List ℕ) → (param_step {K = K} [] path).1 ≡ []
  unfolding param_step
  no_param path = by (has_slash path)
    where
      by : (slash : Bool) → (cond {A = ℕ × RowsOf K} slash (0, []) (length path, [])).1 ≡ []
      by true = refl
      by false = refl

  none_found : (skip : ℕ) (path : List ℕ) → seek {K = K} skip [] path ≡ None
  unfolding seek
  none_found skip [] = refl
  none_found (suc skip) (b ∷ path) = none_found skip path
  none_found zero (b ∷ path) =
      let stepped : ℕ × RowsOf K = param_step [] (b ∷ path) in
      ap (λ (o : Option K). or_else o (or_else (seek (stepped.0 - 1) stepped.1 path) None)) (none_found 0 path)
      ∙ ap (λ (rows : RowsOf K). or_else (seek (stepped.0 - 1) rows path) None) (no_param (b ∷ path))
      ∙ ap (λ (o : Option K). or_else o None) (none_found (stepped.0 - 1) path)

  alone : (o : Option K) → or_else o None ≡ o
  alone None = refl
  alone (Some key) = refl

  -- what ends here is the row without tokens
  ends_here : (rows : RowsOf K) → own rows ≡ lookup [] rows
  ends_here [] = refl
  ends_here (([], key) ∷ rest) = refl
  ends_here ((x ∷ tokens, key) ∷ rest) = ends_here rest

  -- to go on with a byte, and then to look for the rest
  goes_on : (b : ℕ) (path : List ℕ) (rows : RowsOf K) → lookup path (step b rows) ≡ lookup (b ∷ path) rows
  goes_on b path [] = refl
  goes_on b path (([], key) ∷ rest) = goes_on b path rest
  goes_on b path ((x ∷ tokens, key) ∷ rest) =
      elim (cases_Bool (x == b)) [
        | inl same ↦
            ap (λ t. lookup path (cond t ((tokens, key) ∷ step b rest) (step b rest))) same
            ∙ ap (λ o. cond (same_text tokens path) (Some key) o) (goes_on b path rest)
            ∙ sym (ap (λ t. cond (t && same_text tokens path) (Some key) (lookup (b ∷ path) rest)) same)
        | inr other ↦
            ap (λ t. lookup path (cond t ((tokens, key) ∷ step b rest) (step b rest))) other
            ∙ goes_on b path rest
            ∙ sym (ap (λ t. cond (t && same_text tokens path) (Some key) (lookup (b ∷ path) rest)) other)
      ]

  -- a router of literal rows finds the row of the path itself
  pub found_by_text : (rows : RowsOf K) → are_literal rows ≡ true → (path : List ℕ) → first rows path ≡ lookup path rows
  unfolding seek
  found_by_text rows literal [] = ends_here rows
  found_by_text rows literal (b ∷ path) =
      let begun : Option K = seek 0 (step b rows) path in
      let stepped : ℕ × RowsOf K = param_step [] (b ∷ path) in
      ap (λ (rs : RowsOf K). or_else begun (or_else (seek ((param_step rs (b ∷ path)).0 - 1) (param_step rs (b ∷ path)).1 path) (own (step catch_all_token rows))))
      (none_steps param_token rows (omega arith) literal)
      ∙ ap (λ (rs : RowsOf K). or_else begun (or_else (seek (stepped.0 - 1) stepped.1 path) (own rs))) (none_steps catch_all_token rows (omega arith) literal)
      ∙ ap (λ (rs : RowsOf K). or_else begun (or_else (seek (stepped.0 - 1) rs path) None)) (no_param (b ∷ path))
      ∙ ap (λ (o : Option K). or_else begun (or_else o None)) (none_found (stepped.0 - 1) path)
      ∙ alone begun
      ∙ found_by_text (step b rows) (literal_steps b rows literal) path
      ∙ goes_on b path rows

-- the first of five whose text the path is
pub first_of_five : {A B : Type 0} (value : A → B) (a b c d e : Bool) (one two three four five : A)
    → option_map value (cond a (Some one) (cond b (Some two) (cond c (Some three) (cond d (Some four) (cond e (Some five) None)))))
    ≡ cond a (Some (value one)) (cond b (Some (value two)) (cond c (Some (value three)) (cond d (Some (value four)) (cond e (Some (value five)) None))))
first_of_five value true b c d e one two three four five = refl
first_of_five value false true c d e one two three four five = refl
first_of_five value false false true d e one two three four five = refl
first_of_five value false false false true e one two three four five = refl
first_of_five value false false false false true one two three four five = refl
first_of_five value false false false false false one two three four five = refl
