-- Where the parts of a name end.
use Rattle.std.proofs.Common.{◌≡◌, ℕ, ◌+◌, ◌<◌, ◌≤◌, Bool, true, false, not, List, [], ◌∷◌, ◌++◌, length, take, drop, get_or, refl, sym, ap, ◌∙◌, inl, inr, ◌⊎◌, arith, Option, Some, None, if◌then◌else◌}
use Rattle.std.specs.List.{list_all, prefix_len, position_or_len}
use Rattle.std.proofs.lemmas.Bool.{and_parts, cases_lt, eqb-true, lt-ltb, le-ltb}
use Rattle.std.proofs.lemmas.List.{take_all, drop_all, length-append, append-nil}
use Rattle.std.proofs.lemmas.List.Sums.{split_at_first, passes_at_first}
use Rattle.std.proofs.Math.Seq.{take-append_seam, drop-append-add}
use Rattle.frbr_names.specs.Parts.{is_slash, part_of, behind_part, behind_slash}

-- none of the bytes is a `/`
abbrev pub HasNoSlash : List ℕ → Type 0
HasNoSlash xs = list_all (λ b. not (is_slash b)) xs ≡ true

-- the bytes up to the first that fails a test
pub through : (f : ℕ → Bool) (xs rest : List ℕ) (s : ℕ) → list_all f xs ≡ true → f s ≡ false → prefix_len f (xs ++ s ∷ rest) ≡ length xs
through f [] rest s all stop = rw stop refl
through f (x ∷ xs) rest s all stop =
    let parts = and_parts (f x) (list_all f xs) all in
    let tail = through f xs rest s parts.1 stop in
    rw parts.0 (omega arith)

whole : (f : ℕ → Bool) (xs : List ℕ) → list_all f xs ≡ true → prefix_len f xs ≡ length xs
whole f [] all = refl
whole f (x ∷ xs) all =
    let parts = and_parts (f x) (list_all f xs) all in
    let tail = whole f xs parts.1 in
    rw parts.0 (omega arith)

-- the part that stands before a `/` is read as that part, and what stands behind it is what is left
pub part_of-cut : (xs rest : List ℕ) → HasNoSlash xs → part_of (xs ++ 47 ∷ rest) ≡ xs
unfolding part_of
part_of-cut xs rest none =
    ap (λ n. take n (xs ++ 47 ∷ rest)) (through (λ b. not (is_slash b)) xs rest 47 none refl) ∙ take-append_seam xs (47 ∷ rest)

pub behind_part-cut : (xs rest : List ℕ) → HasNoSlash xs → behind_part (xs ++ 47 ∷ rest) ≡ rest
unfolding behind_part
behind_part-cut xs rest none =
    ap (λ n. drop (n + 1) (xs ++ 47 ∷ rest)) (through (λ b. not (is_slash b)) xs rest 47 none refl) ∙ drop-append-add xs (47 ∷ rest) 1

-- a part that no `/` ends is all that is left
pub part_of-all : (xs : List ℕ) → HasNoSlash xs → part_of xs ≡ xs
unfolding part_of
part_of-all xs none =
    ap (λ n. take n xs) (whole (λ b. not (is_slash b)) xs none) ∙ take_all (length xs) xs (omega arith)

cut_at : (left : List ℕ) → position_or_len is_slash left < length left
    → left ≡ take (position_or_len is_slash left) left ++ 47 ∷ drop (position_or_len is_slash left + 1) left
cut_at left some =
    split_at_first is_slash left 0 some
    ∙ ap (λ b. take (position_or_len is_slash left) left ++ b ∷ drop (position_or_len is_slash left + 1) left)
    (eqb-true (get_or left (position_or_len is_slash left) 0) 47 (passes_at_first is_slash left 0 some))

-- either no `/` ends the part that stands first, and nothing is left behind it, or one does
pub cut_again : (left : List ℕ) → ((part_of left ≡ left) × (behind_part left ≡ [])) ⊎ (left ≡ part_of left ++ 47 ∷ behind_part left)
unfolding part_of behind_part
cut_again left = elim (cases_lt (position_or_len is_slash left) (length left)) [
  | inl some ↦ inr (cut_at left some)
  | inr none ↦ inl (take_all (position_or_len is_slash left) left none, drop_all (position_or_len is_slash left + 1) left (omega arith))
]

-- what stands behind the next `/`, where one comes and where none does
pub behind_slash-cut : (xs rest : List ℕ) → HasNoSlash xs → behind_slash (xs ++ 47 ∷ rest) ≡ Some rest
unfolding behind_slash
behind_slash-cut xs rest none =
    let at = through (λ b. not (is_slash b)) xs rest 47 none refl in
    rw (at, lt-ltb (length xs) (length (xs ++ 47 ∷ rest)) (omega (arith, length-append xs (47 ∷ rest)))) (ap Some (drop-append-add xs (47 ∷ rest) 1))

pub behind_slash-none : (xs : List ℕ) → HasNoSlash xs → behind_slash xs ≡ None
unfolding behind_slash
behind_slash-none xs none = rw (whole (λ b. not (is_slash b)) xs none, le-ltb (length xs) (length xs) (omega arith)) refl

some_again : (left ending : List ℕ) (behind : Option (List ℕ)) → Some (drop (position_or_len is_slash left + 1) left) ≡ behind
    → ((ending ≡ []) × (behind ≡ None)) ⊎ ((b : List ℕ) × (ending ≡ 47 ∷ b) × (behind ≡ Some b)) → position_or_len is_slash left < length left
    → left ≡ take (position_or_len is_slash left) left ++ ending
some_again left ending behind found (inl (nothing, none)) some = cc
some_again left ending behind found (inr (b, is, there)) some =
    let here : drop (position_or_len is_slash left + 1) left ≡ b = cc in
    cut_at left some ∙ ap (λ xs. take (position_or_len is_slash left) left ++ 47 ∷ xs) here ∙ ap (λ xs. take (position_or_len is_slash left) left ++ xs) (sym is)

none_again : (left ending : List ℕ) (behind : Option (List ℕ)) → None ≡ behind
    → ((ending ≡ []) × (behind ≡ None)) ⊎ ((b : List ℕ) × (ending ≡ 47 ∷ b) × (behind ≡ Some b)) → length left ≤ position_or_len is_slash left
    → left ≡ take (position_or_len is_slash left) left ++ ending
none_again left ending behind found (inl (nothing, none)) over =
    sym (ap (λ xs. take (position_or_len is_slash left) left ++ xs) nothing ∙ append-nil (take (position_or_len is_slash left) left) ∙ take_all (position_or_len is_slash left) left over)
none_again left ending behind found (inr (b, is, there)) over = cc

-- a part and what stands behind it, by what was found behind its `/`
pub left_again : (left ending : List ℕ) (behind : Option (List ℕ)) → behind_slash left ≡ behind
    → ((ending ≡ []) × (behind ≡ None)) ⊎ ((b : List ℕ) × (ending ≡ 47 ∷ b) × (behind ≡ Some b)) → left ≡ part_of left ++ ending
unfolding behind_slash part_of
left_again left ending behind found how = elim (cases_lt (position_or_len is_slash left) (length left)) [
  | inl some ↦ some_again left ending behind (sym (ap (λ t. if t then Some (drop (position_or_len is_slash left + 1) left) else None) (lt-ltb _ _ some)) ∙ found) how some
  | inr none ↦ none_again left ending behind (sym (ap (λ t. if t then Some (drop (position_or_len is_slash left + 1) left) else None) (le-ltb _ _ none)) ∙ found) how none
]
