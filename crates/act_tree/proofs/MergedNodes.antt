-- A node of an arena takes the next one in.
use Rattle.std.proofs.Common.{◌≡◌, ◌∙◌, sym, ap, refl, subst, ℕ, ◌<◌, ◌==◌, true, false, ◌||◌, List, [], ◌++◌, Option, Some, None, is_some, option_map, inl, inr}
use Rattle.std.specs.List.{list_any}
use Rattle.std.proofs.lemmas.Bool.{cases_Bool, or_cases}
use Rattle.std.proofs.lemmas.List.Folds.{list_any-append}
use Rattle.act_tree.specs.declared.arena.Arena.{Arena}
use Rattle.act_tree.specs.Provisions.{Own}
use Rattle.act_tree.specs.Changes.{changed, merged, next_of, root_wid}
use Rattle.act_tree.specs.Arena.{Laid, provision_in, above_in, below_in, branches_below, branch_from, climbs, IsWhole}
use Rattle.act_tree.specs.Moved.{CanJoin, IsJoined}
use Rattle.act_tree.specs.Relisted.{IsRelisted}
use Rattle.act_tree.specs.Siblings.{number_behind}
use Rattle.act_tree.specs.Slots.{at, number, size}
use Rattle.act_tree.proofs.Building.{Holds, held}
use Rattle.act_tree.proofs.Frames.{or_right}
use Rattle.act_tree.proofs.LaidDown.{laid_past, laid_within}
use Rattle.act_tree.proofs.Merging.{Follows, Next, next_of_spot, behind_says, own_lists, text_merged}
use Rattle.act_tree.proofs.NextNodes.{IsProvision, is_provision, next_sibling}
use Rattle.act_tree.proofs.SiblingNodes.{IsChild, listed_child, next_child, behind_listed, behind_other, none_next}
use Rattle.act_tree.proofs.Spots.{Spot, spot}
use Rattle.act_tree.proofs.TakingAway.{sits, may_be_taken}
use Rattle.act_tree.proofs.Times.{some_listed}
use Rattle.act_tree.proofs.TreeNodes.{node_laid, no_root_held}
use Rattle.act_tree.proofs.WidsDiffer.{not_below_child}

module _ (at : ℕ → Option Laid) (number : List ℕ → Option ℕ) (size : ℕ) (whole : IsWhole at number size) where
  -- so none stands behind the root
  pub root_alone : (i : ℕ) → is_some (next_of (provision_in (at i)).wid (branches_below size at (below_in (at 0)))) ≡ true → i ≡ 0 → ⊥
  root_alone i some root =
      let wid : (provision_in (at i)).wid ≡ root_wid = ap (λ k. (provision_in (at k)).wid) root ∙ ap (λ p. p.wid) whole.root in
      let none : next_of (provision_in (at i)).wid (branches_below size at (below_in (at 0))) ≡ None =
      ap (λ v. next_of v (branches_below size at (below_in (at 0)))) wid ∙ none_next root_wid (branches_below size at (below_in (at 0))) (no_root_held at number size whole) in
      let told : is_some (next_of (provision_in (at i)).wid (branches_below size at (below_in (at 0)))) ≡ false = ap is_some none in
      cc

  some_mapped : (o : Option ℕ) → is_some (option_map (branch_from size at) o) ≡ is_some o
  some_mapped None = refl
  some_mapped (Some x) = refl

  pub some_behind : (i : ℕ) → climbs size at i ≡ true → is_some (next_of (provision_in (at i)).wid (branches_below size at (below_in (at 0)))) ≡ true
      → is_some (number_behind i (below_in (at (above_in (at i))))) ≡ true
  some_behind i climbed some = sym (some_mapped _) ∙ ap is_some (next_sibling at number size whole i climbed (root_alone i some)) ∙ some

module _ (old : Arena) (i x : ℕ) (whole : IsWhole (at old) (number old) (size old)) (climbed : climbs (size old) (at old) i ≡ true) (other : i ≡ 0 → ⊥) (behind : number_behind i (below_in (at old (above_in (at old i)))) ≡ Some x) where
  it : IsProvision (at old) (number old) (size old) i
  it = is_provision (at old) (number old) (size old) whole i climbed other

  next : IsChild (at old) (number old) (size old) whole (above_in (at old i)) x
  next = next_child (at old) (number old) (size old) whole i x it.above behind

  pub follows : Follows (at old) (number old) i x
  follows = record {
    it = sits (at old) (number old) (size old) whole x next.climbed next.other;
    above = sym next.above;
    listed = ap (λ v. list_any (λ j. j == i) (below_in (at old v))) next.above ∙ it.listed;
    behind = ap (λ v. number_behind i (below_in (at old v))) next.above ∙ behind;
    leads = it.leads;
    other = behind_other i x (below_in (at old (above_in (at old i)))) (whole.once (above_in (at old i))) behind;
    not_root = next.other;
    not_zero = other;
  }

  child_i : (k : ℕ) → list_any (λ j. j == k) (below_in (at old i)) ≡ true → IsChild (at old) (number old) (size old) whole i k
  child_i k found = listed_child (at old) (number old) (size old) whole i k climbed found

  child_x : (k : ℕ) → list_any (λ j. j == k) (below_in (at old x)) ≡ true → IsChild (at old) (number old) (size old) whole x k
  child_x k found = listed_child (at old) (number old) (size old) whole x k next.climbed found

  low : (k : ℕ) → climbs (size old) (at old) k ≡ true → k < size old
  low k up = let here : (y : Laid) × (at old k ≡ Some y) = node_laid (at old) (number old) (size old) whole k up in laid_within old.slots.items k here.0 here.1

  module _ (below : List ℕ) (same : below ≡ below_in (at old i) ++ below_in (at old x)) where
    parts : (k : ℕ) → list_any (λ j. j == k) below ≡ (list_any (λ j. j == k) (below_in (at old i)) || list_any (λ j. j == k) (below_in (at old x)))
    parts k = ap (list_any (λ j. j == k)) same ∙ list_any-append (λ j. j == k) (below_in (at old i)) (below_in (at old x))

    -- a number that is below neither is not below both
    outside : (k : ℕ) → (list_any (λ j. j == k) (below_in (at old i)) ≡ true → ⊥) → (list_any (λ j. j == k) (below_in (at old x)) ≡ true → ⊥) → list_any (λ j. j == k) below ≡ false
    outside k not_i not_x = elim (cases_Bool (list_any (λ j. j == k) below)) [
      | inl found ↦ absurd (elim (or_cases _ _ (sym (parts k) ∙ found)) [ inl one ↦ not_i one | inr two ↦ not_x two ])
      | inr none ↦ none
    ]

    pub may_join : CanJoin (at old) (size old) i x below
    may_join =
        let f : Follows (at old) (number old) i x = follows in
        let taken : (x < size old) × ((above_in (at old x) < size old) × (above_in (at old x) ≡ x → ⊥)) = may_be_taken old x whole next.climbed next.other in
        let own : (i < size old) × ((above_in (at old i) < size old) × (above_in (at old i) ≡ i → ⊥)) = may_be_taken old i whole climbed other in
        let beside : (k : ℕ) → above_in (at old k) ≡ above_in (at old i) → list_any (λ j. j == k) below ≡ false = λ k up. outside k
        (λ found. let child : IsChild (at old) (number old) (size old) whole i k = child_i k found in own.1.1 (sym up ∙ child.above))
        (λ found. let child : IsChild (at old) (number old) (size old) whole x k = child_x k found in taken.1.1 (next.above ∙ sym up ∙ child.above)) in
        record {
          within = own.0;
          next = taken.0;
          above = taken.1.0;
          other = f.other;
          not_above = λ same_up. own.1.1 (sym next.above ∙ sym same_up);
          apart = taken.1.1;
          children = some_listed (λ k. k < size old) below (λ k found. elim (or_cases _ _ (sym (parts k) ∙ found)) [
            | inl one ↦ (let child : IsChild (at old) (number old) (size old) whole i k = child_i k one in low k child.climbed)
            | inr two ↦ (let child : IsChild (at old) (number old) (size old) whole x k = child_x k two in low k child.climbed)
          ]);
          next_children = some_listed (λ k. k < size old) (below_in (at old x)) (λ k found. let child : IsChild (at old) (number old) (size old) whole x k = child_x k found in low k child.climbed);
          outside = beside i refl;
          next_outside = beside x next.above;
          above_outside = outside (above_in (at old x))
              (λ found. not_below_child (at old) (number old) (size old) whole (above_in (at old i)) i it.above it.listed (ap (λ v. list_any (λ j. j == v) (below_in (at old i))) (sym next.above) ∙ found))
              (λ found. not_below_child (at old) (number old) (size old) whole (above_in (at old i)) x it.above (behind_listed i x (below_in (at old (above_in (at old i)))) behind) (ap (λ v. list_any (λ j. j == v) (below_in (at old x))) (sym next.above) ∙ found));
          taken_in = λ k found. parts k ∙ or_right (list_any (λ j. j == k) (below_in (at old i))) _ found;
          own = λ k found none. elim (or_cases _ _ (sym (parts k) ∙ found)) [
            | inl one ↦ (let child : IsChild (at old) (number old) (size old) whole i k = child_i k one in child.above)
            | inr two ↦ absurd cc
          ];
        }

    -- a node has taken the next one in
    pub merged_arena : (new : Arena) (content : List ℕ) (refs : List (List ℕ)) → new.numbers ≡ old.numbers → size new ≡ size old
        → refs ≡ (provision_in (at old i)).own.refs ++ (provision_in (at old x)).own.refs
        → IsJoined old new i x (record (provision_in (at old i)).own { content = content; refs = refs }) below
        → Holds new (changed (merged content) (provision_in (at old i)).wid (branches_below (size old) (at old) (below_in (at old 0))))
    merged_arena new content refs numbers sizes refs_are j =
        let f : Follows (at old) (number old) i x = follows in
        let m : Spot (at old) (number old) (above_in (at old x)) i (below_in (at old (above_in (at old x)))) f.it.siblings = spot (at old) (number old) (above_in (at old x)) i (below_in (at old (above_in (at old x)))) f.it.siblings f.it.stands.1.1 f.listed in
        let n : Next (at old) (number old) (above_in (at old x)) x m.back m.after = next_of_spot (at old) (number old) i x f m in
        let own : Own = record (provision_in (at old i)).own { content = content; refs = refs } in
        let own_is : own ≡ record m.says.own { content = content; refs = m.says.own.refs ++ n.says.own.refs } = behind_says (at old) (number old) i x f m n content refs refs_are in
        let P : List ℕ → Type 0 = λ ks. IsRelisted (at j.bare) (at new) i own [] (below_in (at j.off x)) ks in
        let r : IsRelisted (at j.bare) (at new) i own [] (below_in (at j.off x)) (below_in (at j.bare i) ++ below_in (at j.off x)) =
        subst P (same ∙ own_lists (at old) (at j.off) (at j.bare) (number old) i x f j.taken j.emptied) j.joined in
        held old new (provision_in (at old 0)) _ numbers sizes whole.root
        (text_merged (at old) (at j.off) (at j.bare) (at new) (number old) (size old) whole (laid_past old.slots.items) i x f m n j.taken j.emptied content own own_is r)

  -- the number of the next one is one of a provision
  pub behind_within : x < size old
  behind_within = low x next.climbed
