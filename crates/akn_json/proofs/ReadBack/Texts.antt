-- The text of a JSON value as the desk prints them is UTF-8, and is read as that value.
use Rattle.std.proofs.Common.{◌≡◌, ◌≤◌, ◌<◌, ◌^◌, ◌∙◌, ℕ, suc, Bool, true, false, ◌&&◌, List, [], ◌∷◌, ◌++◌, Some, None, option_map, option_and_then, decimal, Ordering, Less, Equal, Greater, IsUtf8, refl, sym, ap, ap₂, arith, append-nil}
use Rattle.std.specs.Prelude.{⊤}
use Rattle.std.specs.Cmp.Lexicographic.{slice_cmp}
use Rattle.std.specs.Ordering.{nat_cmp, match_ordering}
use Rattle.std.proofs.lemmas.Bool.{and_parts}
use Rattle.std.proofs.lemmas.Fmt.{IsAscii-decimal}
use Rattle.std.proofs.lemmas.Str.{IsUtf8-append, IsUtf8-from_ascii}
use Rattle.json.specs.Lex.{tokens}
use Rattle.json.specs.Json as json
use Rattle.json.specs.Tree as tree
use Rattle.json.specs.Tree.{json_tokens, HasNumbers, ItemsHaveNumbers, MembersHaveNumbers}
use Rattle.json.proofs.Printed.Decimals.{IsNumber-decimal}
use Rattle.json.proofs.Printed.Tokens.{tokens-print}
use Rattle.json.proofs.Printed.Trees.{value-json_tokens, ArePrintable-json_tokens}
use Rattle.json.proofs.Printed.Utf8.{are_ascii, IsUtf8-are_ascii, IsUtf8-boolean, IsUtf8-quoted}
use Rattle.serde_json.specs.Data.{Num, unsigned, negative, float, Data, null, boolean, number, string, array, object, Items, no_items, item, Members, no_members, member, put, depth, items_depth, members_depth}
use Rattle.serde_json.specs.Read.{of_json, of_items, of_members, max_depth, read}
use Rattle.serde_json.specs.Written.{outline, items_outline, members_outline, comma_if, compact_text, items_text, members_text}
use Rattle.serde_json.proofs.Numbers.{number_of-decimal}
use Rattle.serde_json.proofs.Texts.{print-outline}

-- ---- a value that has one text: its texts are UTF-8, its numbers are whole and fit 64 bits, and the keys of each object are ASCII and ascend

-- each of these keys is greater than this one
abbrev pub are_behind : List ℕ → Members → Bool
are_behind k no_members = true
are_behind k (member l d ms) = match_ordering (slice_cmp nat_cmp l k) false false true && are_behind k ms

-- the keys of an object are ASCII, and ascend
abbrev pub keys_ascend : Members → Bool
keys_ascend no_members = true
keys_ascend (member k d ms) = are_ascii k && (are_behind k ms && keys_ascend ms)

abbrev pub IsPlainNumber : Num → Type 0
IsPlainNumber (unsigned n) = n < 2 ^ 64
IsPlainNumber (negative z) = ⊥
IsPlainNumber (float x) = ⊥

abbrev mutual
  pub IsPlain : Data → Type 0
  IsPlain null = ⊤
  IsPlain (boolean b) = ⊤
  IsPlain (number n) = IsPlainNumber n
  IsPlain (string s) = IsUtf8 s
  IsPlain (array ds) = ArePlainItems ds
  IsPlain (object ms) = (keys_ascend ms ≡ true) × ArePlainMembers ms

  pub ArePlainItems : Items → Type 0
  ArePlainItems no_items = ⊤
  ArePlainItems (item d ds) = IsPlain d × ArePlainItems ds

  pub ArePlainMembers : Members → Type 0
  ArePlainMembers no_members = ⊤
  ArePlainMembers (member k d ms) = IsPlain d × ArePlainMembers ms

-- ---- its text is UTF-8

comma_utf8 : (later : Bool) → IsUtf8 (comma_if later)
comma_utf8 true = IsUtf8-are_ascii _ refl
comma_utf8 false = IsUtf8-are_ascii _ refl

mutual
  pub text_utf8 : (d : Data) → IsPlain d → IsUtf8 (compact_text d)
  text_utf8 null plain = IsUtf8-are_ascii _ refl
  text_utf8 (boolean b) plain = IsUtf8-boolean b
  text_utf8 (number (unsigned n)) plain = IsUtf8-from_ascii (decimal n) (IsAscii-decimal n plain)
  text_utf8 (number (negative z)) plain = absurd plain
  text_utf8 (number (float x)) plain = absurd plain
  text_utf8 (string s) plain = IsUtf8-quoted s plain
  text_utf8 (array ds) plain = IsUtf8-append (91 ∷ []) _ (IsUtf8-are_ascii _ refl) (items_utf8 false ds plain)
  text_utf8 (object ms) plain =
      IsUtf8-append (123 ∷ []) _ (IsUtf8-are_ascii _ refl) (members_utf8 false ms plain.0 plain.1)

  items_utf8 : (later : Bool) (ds : Items) → ArePlainItems ds → IsUtf8 (items_text later ds)
  items_utf8 later no_items plain = IsUtf8-are_ascii _ refl
  items_utf8 later (item d ds) plain =
      IsUtf8-append (comma_if later) _ (comma_utf8 later) (IsUtf8-append _ _ (text_utf8 d plain.0) (items_utf8 true ds plain.1))

  members_utf8 : (later : Bool) (ms : Members) → keys_ascend ms ≡ true → ArePlainMembers ms → IsUtf8 (members_text later ms)
  members_utf8 later no_members ascend plain = IsUtf8-are_ascii _ refl
  members_utf8 later (member k d ms) ascend plain =
      let key = and_parts (are_ascii k) (are_behind k ms && keys_ascend ms) ascend in
      let rest = and_parts (are_behind k ms) (keys_ascend ms) key.1 in
      IsUtf8-append (comma_if later) _ (comma_utf8 later)
      (IsUtf8-append _ _ (IsUtf8-quoted k (IsUtf8-are_ascii k key.0))
      (IsUtf8-append (58 ∷ []) _ (IsUtf8-are_ascii _ refl)
      (IsUtf8-append _ _ (text_utf8 d plain.0) (members_utf8 true ms rest.1 plain.1))))

-- ---- its tokens are those of its outline

mutual
  has_numbers : (d : Data) → IsPlain d → HasNumbers (outline d)
  has_numbers null plain = tt
  has_numbers (boolean b) plain = tt
  has_numbers (number (unsigned n)) plain = IsNumber-decimal n plain
  has_numbers (number (negative z)) plain = absurd plain
  has_numbers (number (float x)) plain = absurd plain
  has_numbers (string s) plain = tt
  has_numbers (array ds) plain = items_have_numbers ds plain
  has_numbers (object ms) plain = members_have_numbers ms plain.1

  items_have_numbers : (ds : Items) → ArePlainItems ds → ItemsHaveNumbers (items_outline ds)
  items_have_numbers no_items plain = tt
  items_have_numbers (item d ds) plain = (has_numbers d plain.0, items_have_numbers ds plain.1)

  members_have_numbers : (ms : Members) → ArePlainMembers ms → MembersHaveNumbers (members_outline ms)
  members_have_numbers no_members plain = tt
  members_have_numbers (member k d ms) plain = (has_numbers d plain.0, members_have_numbers ms plain.1)

mutual
  same_depth : (d : Data) → tree.depth (outline d) ≡ depth d
  same_depth null = refl
  same_depth (boolean b) = refl
  same_depth (number n) = refl
  same_depth (string s) = refl
  same_depth (array ds) = ap suc (same_items_depth ds)
  same_depth (object ms) = ap suc (same_members_depth ms)

  same_items_depth : (ds : Items) → tree.items_depth (items_outline ds) ≡ items_depth ds
  same_items_depth no_items = refl
  same_items_depth (item d ds) = rw (same_depth d, same_items_depth ds) refl

  same_members_depth : (ms : Members) → tree.members_depth (members_outline ms) ≡ members_depth ms
  same_members_depth no_members = refl
  same_members_depth (member k d ms) = rw (same_depth d, same_members_depth ms) refl

-- ---- an outline is that of one value

-- members behind others
abbrev behind : Members → Members → Members
behind no_members ms = ms
behind (member k d found) ms = member k d (behind found ms)

-- each of these keys is less than this one, and than each of those
abbrev are_before : List ℕ → Members → Bool
are_before k no_members = true
are_before k (member l d found) = match_ordering (slice_cmp nat_cmp k l) false false true && are_before k found

abbrev all_before : Members → Members → Bool
all_before found no_members = true
all_before found (member k d ms) = are_before k found && all_before found ms

greater : (o : Ordering) → match_ordering o false false true ≡ true → o ≡ Greater
greater Less is = absurd (cc is)
greater Equal is = absurd (cc is)
greater Greater is = refl

put_last : (k : List ℕ) (d : Data) (found : Members) → are_before k found ≡ true → put k d found ≡ behind found (member k d no_members)
put_last k d no_members before = refl
put_last k d (member l e found) before =
    let parts = and_parts (match_ordering (slice_cmp nat_cmp k l) false false true) (are_before k found) before in
    rw (greater (slice_cmp nat_cmp k l) parts.0) (ap (member l e) (put_last k d found parts.1))

behind_one : (found : Members) (k : List ℕ) (d : Data) (ms : Members) → behind (behind found (member k d no_members)) ms ≡ behind found (member k d ms)
behind_one no_members k d ms = refl
behind_one (member l e found) k d ms = ap (member l e) (behind_one found k d ms)

before_one : (l : List ℕ) (found : Members) (k : List ℕ) (d : Data) → are_before l found ≡ true
    → match_ordering (slice_cmp nat_cmp l k) false false true ≡ true → are_before l (behind found (member k d no_members)) ≡ true
before_one l no_members k d before last = rw last refl
before_one l (member m e found) k d before last =
    let parts = and_parts (match_ordering (slice_cmp nat_cmp l m) false false true) (are_before l found) before in
    rw (parts.0, before_one l found k d parts.1 last) refl

all_before_one : (found : Members) (k : List ℕ) (d : Data) (ms : Members) → all_before found ms ≡ true → are_behind k ms ≡ true
    → all_before (behind found (member k d no_members)) ms ≡ true
all_before_one found k d no_members before are = refl
all_before_one found k d (member l e ms) before are =
    let parts = and_parts (are_before l found) (all_before found ms) before in
    let those = and_parts (match_ordering (slice_cmp nat_cmp l k) false false true) (are_behind k ms) are in
    rw (before_one l found k d parts.0 those.0, all_before_one found k d ms parts.1 those.1) refl

none_before : (ms : Members) → all_before no_members ms ≡ true
none_before no_members = refl
none_before (member k d ms) = none_before ms

behind_none : (found : Members) → behind found no_members ≡ found
behind_none no_members = refl
behind_none (member l e found) = ap (member l e) (behind_none found)

mutual
  of_outline : (d : Data) → IsPlain d → of_json (outline d) ≡ Some d
  of_outline null plain = refl
  of_outline (boolean b) plain = refl
  of_outline (number (unsigned n)) plain = ap (option_map number) (number_of-decimal n plain)
  of_outline (number (negative z)) plain = absurd plain
  of_outline (number (float x)) plain = absurd plain
  of_outline (string s) plain = refl
  of_outline (array ds) plain = ap (option_map array) (of_items_outline ds plain)
  of_outline (object ms) plain = ap (option_map object) (of_members_outline ms no_members plain.0 plain.1 (none_before ms))

  of_items_outline : (ds : Items) → ArePlainItems ds → of_items (items_outline ds) ≡ Some ds
  of_items_outline no_items plain = refl
  of_items_outline (item d ds) plain = rw (of_outline d plain.0, of_items_outline ds plain.1) refl

  of_members_outline : (ms found : Members) → keys_ascend ms ≡ true → ArePlainMembers ms → all_before found ms ≡ true
      → of_members (members_outline ms) found ≡ Some (behind found ms)
  of_members_outline no_members found ascend plain before = ap Some (sym (behind_none found))
  of_members_outline (member k d ms) found ascend plain before =
      let key = and_parts (are_ascii k) (are_behind k ms && keys_ascend ms) ascend in
      let rest = and_parts (are_behind k ms) (keys_ascend ms) key.1 in
      let those = and_parts (are_before k found) (all_before found ms) before in
      ap (option_and_then (λ e. of_members (members_outline ms) (put k e found))) (of_outline d plain.0)
      ∙ ap (of_members (members_outline ms)) (put_last k d found those.0)
      ∙ of_members_outline ms (behind found (member k d no_members)) rest.1 plain.1 (all_before_one found k d ms those.1 rest.0)
      ∙ ap Some (behind_one found k d ms)

-- ---- its text is read as it

pub text_read : (d : Data) → IsPlain d → depth d ≤ max_depth → read (compact_text d) ≡ Some d
text_read d plain shallow =
    let same = ap tokens (sym (print-outline d)) ∙ tokens-print (json_tokens (outline d)) (ArePrintable-json_tokens (outline d) (has_numbers d plain)) in
    ap (λ ts. option_and_then of_json (option_and_then (λ p. json.if_last p.0 p.1) (json.value max_depth ts))) (same ∙ sym (append-nil _))
    ∙ ap (λ o. option_and_then of_json (option_and_then (λ p. json.if_last p.0 p.1) o))
    (value-json_tokens (outline d) max_depth [] (omega (arith, shallow, same_depth d)))
    ∙ of_outline d plain
