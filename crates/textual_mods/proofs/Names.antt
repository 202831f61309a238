-- The names of two modifications begin no wId both.
use Rattle.std.proofs.Common.{◌≡◌, ◌≢◌, ◌∙◌, sym, ap, refl, ℕ, ◌<◌, ◌^◌, Bool, false, List, [], ◌∷◌, ◌++◌, append_assoc, inl, inr, drop, length, arith}
use Rattle.std.specs.Prelude.{nat_eq}
use Rattle.std.specs.Fmt.{decimal}
use Rattle.std.specs.List.{starts_with}
use Rattle.std.specs.Str.Parse.{AllDigits}
use Rattle.std.specs.Char.{digit_value}
use Rattle.std.proofs.lemmas.Bool.{cases_Bool}
use Rattle.std.proofs.lemmas.Bool.Decides.{Decides-eqb}
use Rattle.std.proofs.lemmas.Fmt.{decimal_is_IsNumeral, decimal_injective}
use Rattle.std.proofs.lemmas.Str.Parse.{digit_from_value}
use Rattle.std.proofs.lemmas.Slice.Eq.{starts_is}
use Rattle.desk_base.specs.declared.id.Id.{Id}
use Rattle.act_tree.specs.Brought.{bringer, has_brought}
use Rattle.act_tree.specs.Trees.{TreeValue}
use Rattle.textual_mods.proofs.Behind.{IsBehind, all_fail, all_none}
use Rattle.textual_mods.proofs.Keeping.{applied_has}
use Rattle.textual_mods.specs.Edits.{applied, tree_after}
use Rattle.textual_mods.specs.declared.edit.TextualMod.{TextualMod}

-- digits end where the first byte stands that is none
same_front : (c : ℕ) (xs ys cs ds : List ℕ) → ((d : ℕ) → digit_value d < 10 → c ≢ d) → AllDigits 10 xs → AllDigits 10 ys → xs ++ c ∷ cs ≡ ys ++ c ∷ ds → (xs ≡ ys) × (cs ≡ ds)
same_front c [] [] cs ds stops first second same = (refl, (cc))
same_front c [] (y ∷ ys) cs ds stops first second same = absurd (stops y second.0 (cc))
same_front c (x ∷ xs) [] cs ds stops first second same = absurd (stops x first.0 (cc))
same_front c (x ∷ xs) (y ∷ ys) cs ds stops first second same =
    let heads : x ≡ y = cc in
    let tails : xs ++ c ∷ cs ≡ ys ++ c ∷ ds = cc in
    let rest = same_front c xs ys cs ds stops first.1 second.1 tails in
    (ap (λ z. z ∷ xs) heads ∙ ap (λ zs. y ∷ zs) rest.0, rest.1)

name_is : (id : Id) (rest : List ℕ) → bringer id ++ 95 ∷ 95 ∷ rest ≡ 109 ∷ (decimal id.law ++ 45 ∷ (decimal id.item ++ 95 ∷ 95 ∷ rest))
name_is id rest = append_assoc (109 ∷ decimal id.law) (45 ∷ decimal id.item) (95 ∷ 95 ∷ rest)

-- a wId behind the name of one modification is not behind that of another
names_apart : (by other : Id) (some more : List ℕ) → by.law < 2 ^ 32 → by.item < 2 ^ 16 → other.law < 2 ^ 32 → other.item < 2 ^ 16
    → bringer by ++ 95 ∷ 95 ∷ some ≡ bringer other ++ 95 ∷ 95 ∷ more → other ≡ by
names_apart by other some more law item law2 item2 same =
    let whole : 109 ∷ (decimal by.law ++ 45 ∷ (decimal by.item ++ 95 ∷ 95 ∷ some)) ≡ 109 ∷ (decimal other.law ++ 45 ∷ (decimal other.item ++ 95 ∷ 95 ∷ more)) =
    sym (name_is by some) ∙ same ∙ name_is other more in
    let tails : decimal by.law ++ 45 ∷ (decimal by.item ++ 95 ∷ 95 ∷ some) ≡ decimal other.law ++ 45 ∷ (decimal other.item ++ 95 ∷ 95 ∷ more) = cc in
    let laws = same_front 45 (decimal by.law) (decimal other.law) _ _ (λ d digit is. absurd (omega (arith, digit_from_value d digit)))
    (decimal_is_IsNumeral by.law (omega arith)).0.1 (decimal_is_IsNumeral other.law (omega arith)).0.1 tails in
    let items = same_front 95 (decimal by.item) (decimal other.item) _ _ (λ d digit is. absurd (omega (arith, digit_from_value d digit)))
    (decimal_is_IsNumeral by.item (omega arith)).0.1 (decimal_is_IsNumeral other.item (omega arith)).0.1 laws.1 in
    let P : ℕ → ℕ → Id = λ l i. record { law = l; item = i } in
    sym (ap (λ (l : ℕ). P l by.item) (decimal_injective by.law other.law (omega arith) (omega arith) laws.0)
    ∙ ap (λ (i : ℕ). P other.law i) (decimal_injective by.item other.item (omega arith) (omega arith) items.0))

begins_not : (by other : Id) → by.law < 2 ^ 32 → by.item < 2 ^ 16 → other.law < 2 ^ 32 → other.item < 2 ^ 16 → (other ≡ by → ⊥)
    → (w : List ℕ) → IsBehind (bringer by) w → starts_with nat_eq w (bringer other ++ 95 ∷ 95 ∷ []) ≡ false
begins_not by other law item law2 item2 differ w here =
    let name : List ℕ = bringer other ++ 95 ∷ 95 ∷ [] in
    elim (cases_Bool (starts_with nat_eq w name)) [
      | inl told ↦ absurd (differ (names_apart by other here.0 (drop (length name) w) law item law2 item2
          (sym here.1 ∙ (starts_is Decides-eqb w name _ refl).0 told ∙ append_assoc (bringer other) (95 ∷ 95 ∷ []) (drop (length name) w))))
      | inr told ↦ told
    ]

-- a tree without wIds of another modification has none afterwards
pub others_kept : (t : TreeValue) (by other : Id) (edit : TextualMod) → by.law < 2 ^ 32 → by.item < 2 ^ 16 → other.law < 2 ^ 32 → other.item < 2 ^ 16 → (other ≡ by → ⊥)
    → has_brought other t.body ≡ false → has_brought other (tree_after t (applied t by edit)).body ≡ false
others_kept t by other edit law item law2 item2 differ none =
    let test : List ℕ → Bool = λ w. starts_with nat_eq w (bringer other ++ 95 ∷ 95 ∷ []) in
    all_none test (tree_after t (applied t by edit)).body
    (applied_has (λ w. test w ≡ false) by (λ w here. begins_not by other law item law2 item2 differ w here) t edit (all_fail test t.body none))
