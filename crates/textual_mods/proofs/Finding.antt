-- A text parted at an occurrence of another.
use Rattle.std.proofs.Common.{◌≡◌, ◌≢◌, ◌∙◌, sym, ap, subst, refl, ℕ, suc, ◌+◌, ◌<◌, ◌≤◌, true, false, cond, List, [], ◌∷◌, ◌++◌, length, take, drop, nat_eq, Option, Some, None, inl, inr, arith}
use Rattle.std.specs.Prelude.{option_map, MatchOption}
use Rattle.std.specs.List.{starts_with}
use Rattle.std.specs.Str.Pattern.{FindsText}
use Rattle.std.proofs.lemmas.Bool.{cases_Bool}
use Rattle.std.proofs.lemmas.Bool.Decides.{Decides-eqb}
use Rattle.std.proofs.lemmas.List.{take-append-drop}
use Rattle.std.proofs.lemmas.Slice.Eq.{starts_is}
use Rattle.std.proofs.Math.Seq.{drop-append_seam}
use denote.Ref.{Bor}
use Rattle.textual_mods.specs.Occurrences.{parted_at_first}

starts : (old text rest : List ℕ) → text ≡ old ++ rest → starts_with nat_eq text old ≡ true
starts old text rest is = (starts_is Decides-eqb text old _ refl).1 rest is

begins_not : (old text : List ℕ) → ((rest : List ℕ) → text ≢ old ++ rest) → starts_with nat_eq text old ≡ false
begins_not old text none =
    elim (cases_Bool (starts_with nat_eq text old)) [
      | inl told ↦ absurd (none (drop (length old) text) ((starts_is Decides-eqb text old _ refl).0 told))
      | inr told ↦ told
    ]

-- a text stands nowhere in another before a place
abbrev LacksBefore : ℕ → List ℕ → List ℕ → Type 0
LacksBefore n old text = (i : ℕ) → i < n → (rest : List ℕ) → drop i text ≢ old ++ rest

later : (n b : ℕ) (old text : List ℕ) → LacksBefore (suc n) old (b ∷ text) → LacksBefore n old text
later n b old text lacks i below = lacks (suc i) (omega arith)

none_found : (old text : List ℕ) → LacksBefore (length text + 1) old text → parted_at_first old text ≡ None
none_found old [] lacks = ap (λ t. cond t (Some ([], [])) None) (begins_not old [] (lacks 0 (omega arith)))
none_found old (b ∷ text) lacks =
    ap (λ t. cond t (Some ([], drop (length old) (b ∷ text))) (option_map (λ parts. (b ∷ parts.0, parts.1)) (parted_at_first old text))) (begins_not old (b ∷ text) (lacks 0 (omega arith)))
    ∙ ap (option_map (λ parts. (b ∷ parts.0, parts.1))) (none_found old text (λ i below. lacks (suc i) (omega arith)))

nothing_behind : (old rest : List ℕ) → [] ≡ old ++ rest → [] ≡ rest
nothing_behind [] rest is = is
nothing_behind (x ∷ old) rest is = absurd cc

at_start : (old text rest : List ℕ) → text ≡ old ++ rest → parted_at_first old text ≡ Some ([], rest)
at_start old [] rest is =
    ap (λ t. cond t (Some ([], [])) None) (starts old [] rest is) ∙ ap (λ r. Some ([], r)) (nothing_behind old rest is)
at_start old (b ∷ text) rest is =
    ap (λ t. cond t (Some ([], drop (length old) (b ∷ text))) (option_map (λ parts. (b ∷ parts.0, parts.1)) (parted_at_first old text))) (starts old (b ∷ text) rest is)
    ∙ ap (λ r. Some ([], r)) (ap (drop (length old)) is ∙ drop-append_seam old rest)

first_found : (old front rest : List ℕ) → LacksBefore (length front) old (front ++ (old ++ rest)) → parted_at_first old (front ++ (old ++ rest)) ≡ Some (front, rest)
first_found old [] rest lacks = at_start old (old ++ rest) rest refl
first_found old (b ∷ front) rest lacks =
    ap (λ t. cond t (Some ([], drop (length old) (b ∷ front ++ (old ++ rest)))) (option_map (λ parts. (b ∷ parts.0, parts.1)) (parted_at_first old (front ++ (old ++ rest)))))
    (begins_not old (b ∷ front ++ (old ++ rest)) (lacks 0 (omega arith)))
    ∙ ap (option_map (λ parts. (b ∷ parts.0, parts.1))) (first_found old front rest (later (length front) b old (front ++ (old ++ rest)) lacks))

found_at : (old text before behind : List ℕ) (i j : ℕ) → LacksBefore i old text → drop i text ≡ old ++ drop j text → before ≡ take i text → behind ≡ drop j text → length before ≡ i
    → Some (before, behind) ≡ parted_at_first old text
found_at old text before behind i j lacks there front back long =
    let whole : before ++ (old ++ behind) ≡ text =
    ap (λ t. t ++ (old ++ behind)) front ∙ ap (λ t. take i text ++ (old ++ t)) back ∙ ap (λ t. take i text ++ t) (sym there) ∙ take-append-drop i text in
    let P : List ℕ → Type 0 = λ t. LacksBefore (length before) old t → parted_at_first old t ≡ Some (before, behind) in
    sym (subst P whole (first_found old before behind) (λ k below. lacks k (omega arith)))

-- what `split_once` gives at a text is what stands around its first occurrence
pub parted_is : (old text : List ℕ) (r : Option (Bor (List ℕ) × Bor (List ℕ)))
    → MatchOption r (FindsText old text None) (λ x. (i : ℕ) × (j : ℕ) × FindsText old text (Some (i, j)) × (x.0.now ≡ take i text) × (x.1.now ≡ drop j text) × (i ≤ j) × (length x.0.now ≡ i) × (length x.1.now + j ≡ length text))
    → option_map (λ parts. (parts.0.now, parts.1.now)) r ≡ parted_at_first old text
parted_is old text None cut = sym (none_found old text (λ i below. cut i (omega arith)))
parted_is old text (Some (before, behind)) cut = found_at old text before.now behind.now cut.0 cut.1 cut.2.0 cut.2.1.split cut.3 cut.4 cut.6
