-- A node of an arena is parted.
use Rattle.std.proofs.Common.{◌≡◌, ◌∙◌, sym, ap, subst, ℕ, ◌+◌, ◌<◌, ◌≤◌, ◌==◌, true, false, cond, ◌||◌, List, [], ◌∷◌, ◌++◌, drop, length, Option, Some, Result, Ok, Err, OnOk, OnErr, inl, inr, arith}
use Rattle.std.specs.List.{list_any, All}
use Rattle.std.specs.Str.{bytes_eq}
use Rattle.std.proofs.lemmas.Bool.{cases_Bool}
use Rattle.desk_base.specs.declared.id.Id.{Id}
use Rattle.eid_paths.specs.declared.element.Element.{Element}
use Rattle.eid_paths.specs.Levels.{level_text}
use Rattle.eid_paths.specs.Nums.{is_num}
use Rattle.act_tree.specs.declared.arena.Arena.{Arena}
use Rattle.act_tree.specs.declared.arena.Slot.{Slot}
use Rattle.act_tree.specs.declared.surveying.TheConstants.{NONE_THROUGHOUT}
use Rattle.act_tree.specs.Branches.{Branches, branch, no_branches, more_branches}
use Rattle.act_tree.specs.Brought.{bringer, brought, brought_wid, has_brought}
use Rattle.act_tree.specs.Changes.{changed, parted, is_in, root_wid, holds}
use Rattle.act_tree.specs.Eids.{eid_below}
use Rattle.act_tree.specs.Provisions.{Own, Provision}
use Rattle.act_tree.specs.Wids.{all_wids, is_among}
use Rattle.act_tree.specs.Arena.{Laid, provision_in, above_in, below_in, branches_below, branch_from, climbs, IsWhole}
use Rattle.act_tree.specs.Parted.{CanGive, CanPart, IsGiven, IsParted}
use Rattle.act_tree.specs.Planted.{IsAdded}
use Rattle.act_tree.specs.Slots.{at, number, size, laid}
use Rattle.act_tree.proofs.BroughtWids.{none_throughout, brought_apart}
use Rattle.act_tree.proofs.Building.{Holds, held}
use Rattle.act_tree.proofs.Frames.{or_left}
use Rattle.act_tree.proofs.GraftedTrees.{body_of}
use Rattle.act_tree.proofs.LaidDown.{laid_within}
use Rattle.act_tree.proofs.NextNodes.{IsProvision, is_provision}
use Rattle.act_tree.proofs.Partings.{Setting, text_parted}
use Rattle.act_tree.proofs.PutIn.{all_wids_held}
use Rattle.act_tree.proofs.Relistings.{not_itself}
use Rattle.act_tree.proofs.SiblingNodes.{IsChild, listed_child}
use Rattle.act_tree.proofs.Standing.{one_branch}
use Rattle.act_tree.proofs.TakingAway.{Sits, sits, may_be_taken}
use Rattle.act_tree.proofs.Texts.{equal_text}
use Rattle.act_tree.proofs.Times.{times, times-parts, named_times, times_named, some_listed}
use Rattle.act_tree.proofs.TreeNodes.{node_laid, node_stands, node_inside, is_in-holds}

-- a wId that a modification brings is not one of a text that has none of its wIds
pub not_brought : (by : Id) (e : Element) (num : List ℕ) (body : Branches Provision) → has_brought by body ≡ false → is_in (brought_wid by e num) body ≡ false
not_brought by e num body fresh =
    let v : List ℕ = brought_wid by e num in
    let own : Own = record { element = e; num = num; heading = []; content = []; refs = [] } in
    let nodes : Branches Own = more_branches (branch own no_branches) no_branches in
    elim (cases_Bool (is_in v body)) [
      | inl held ↦ absurd (
          let among : is_among v (root_wid ∷ all_wids body) ≡ true = ap (λ t. bytes_eq v root_wid || t) (all_wids_held v body) ∙ held in
          let never : is_among v (all_wids (brought by nodes)) ≡ false = brought_apart by nodes body fresh v among in
          let eid : v ≡ eid_below NONE_THROUGHOUT (Some (bringer by)) e num = sym (ap (λ t. cond t (level_text e num) (bringer by ++ 95 ∷ 95 ∷ level_text e num)) (none_throughout e)) in
          let told : is_among v (all_wids (brought by nodes)) ≡ true = or_left _ _ (equal_text v (eid_below NONE_THROUGHOUT (Some (bringer by)) e num) eid) in
          cc)
      | inr none ↦ none
    ]

pub can_give : (old one : Arena) (i first n : ℕ) (moved : List ℕ) (u : ℕ) (p : Provision) → CanPart (at old) (size old) i first moved → IsAdded old one p → n ≡ size old → u ≡ above_in (at old i) → CanGive (at one) (size one) i first n moved u
can_give old one i first n moved u p may a place over =
    let sizes : size one ≡ size old + 1 = a.sizes in
    let i_low : i < size old = may.within in
    let u_low : above_in (at old i) < size old = may.above in
    let same : below_in (at one i) ≡ below_in (at old i) = ap below_in (a.others i (λ it. omega arith)) in
    let named : (k : ℕ) → list_any (λ j. j == k) moved ≡ true → list_any (λ j. j == k) (below_in (at old i)) ≡ true =
    λ k found. times_named k (below_in (at old i)) (omega (arith, named_times k moved found, ap (times k) may.same, times-parts k first (below_in (at old i)))) in
    let out : (k : ℕ) → (list_any (λ j. j == k) (below_in (at old i)) ≡ true → ⊥) → list_any (λ j. j == k) moved ≡ false =
    λ k never. elim (cases_Bool (list_any (λ j. j == k) moved)) [ inl found ↦ absurd (never (named k found)) | inr none ↦ none ] in
    let P : List ℕ → Type 0 = λ ks. first ≤ length ks in
    let Q : List ℕ → Type 0 = λ ks. All (λ k. k < size one) ks in
    record {
      within = omega arith;
      new = omega arith;
      over = omega arith;
      place = subst P (sym same) may.place;
      children = subst Q (sym same) (some_listed (λ k. k < size one) (below_in (at old i)) (λ k found. let low : k < size old = may.children k found in omega arith));
      movable = some_listed (λ k. k < size one) moved (λ k found. let low : k < size old = may.children k (named k found) in omega arith);
      same = may.same ∙ sym (ap (drop first) same);
      not_own = out i (λ found. let none : list_any (λ j. j == i) (below_in (at old i)) ≡ false = may.not_own in cc);
      not_moved = out n (λ found. let low : n < size old = may.children n found in omega arith);
      other = λ it. omega arith;
    }

pub given_as : (old new : Arena) (i first : ℕ) (head moved : List ℕ) (n m u v : ℕ) (list ks : List ℕ) → n ≡ m → u ≡ v → list ≡ ks → IsGiven old new i first head n moved u list → IsGiven old new i first head m moved v ks
given_as old new i first head moved n m u v list ks number over lists g =
    let P : ℕ → Type 0 = λ j. IsGiven old new i first head j moved u list in
    let Q : ℕ → Type 0 = λ j. IsGiven old new i first head m moved j list in
    let R : List ℕ → Type 0 = λ js. IsGiven old new i first head m moved v js in
    subst R lists (subst Q over (subst P number g))

module _ (old : Arena) (i : ℕ) (whole : IsWhole (at old) (number old) (size old)) (climbed : climbs (size old) (at old) i ≡ true) (other : i ≡ 0 → ⊥) where
  pub can_part : (place : ℕ) (moved : List ℕ) → place ≤ length (below_in (at old i)) → moved ≡ drop place (below_in (at old i)) → CanPart (at old) (size old) i place moved
  can_part place moved fits same =
      let may : (i < size old) × ((above_in (at old i) < size old) × (above_in (at old i) ≡ i → ⊥)) = may_be_taken old i whole climbed other in
      record {
        within = may.0;
        above = may.1.0;
        place = fits;
        children = λ k found.
            let child : IsChild (at old) (number old) (size old) whole i k = listed_child (at old) (number old) (size old) whole i k climbed found in
            let here : (x : Laid) × (at old k ≡ Some x) = node_laid (at old) (number old) (size old) whole k child.climbed in
            laid_within old.slots.items k here.0 here.1;
        same = same;
        not_own = not_itself (at old) (number old) (provision_in (at old i)) (branches_below (size old) (at old) (below_in (at old i))) (above_in (at old i)) i (node_stands (at old) (number old) (size old) whole i climbed);
      }

  -- a node was parted
  pub parted_arena : (new : Arena) (place : ℕ) (head : List ℕ) (second : Provision) (moved : List ℕ) → moved ≡ drop place (below_in (at old i)) → IsParted old new i place head second moved → is_in second.wid (body_of old) ≡ false → is_num second.own.num ≡ true
      → Holds new (changed (parted place head second) (provision_in (at old i)).wid (body_of old))
  parted_arena new place head second moved are p fresh num =
      let it : Sits (at old) (number old) i = sits (at old) (number old) (size old) whole i climbed other in
      let u : ℕ = above_in (at old i) in
      let seat : IsProvision (at old) (number old) (size old) i = is_provision (at old) (number old) (size old) whole i climbed other in
      let same : branch it.over it.siblings ≡ branch_from (size old) (at old) u =
      one_branch (at old) (number old) (branch it.over it.siblings) (branch_from (size old) (at old) u) (above_in (at old u)) (above_in (at old u)) u it.stands (node_stands (at old) (number old) (size old) whole u seat.above) in
      let f : Setting old new i place head second moved = record {
        parts = p;
        are = are;
        whole = whole;
        it = it;
        not_zero = other;
        inside = λ v among. node_inside (at old) (number old) (size old) whole u seat.above v (sym (ap (holds v) same) ∙ among);
        free = sym (is_in-holds (at old) (number old) (size old) whole second.wid) ∙ fresh;
        num = num;
      } in
      held p.added new (provision_in (at old 0)) (changed (parted place head second) (provision_in (at old i)).wid (body_of old)) p.numbers p.sizes whole.root (text_parted old new i place head second moved f)

-- nothing has changed
pub unchanged : (old new : Arena) → IsWhole (at old) (number old) (size old) → new.slots.items ≡ old.slots.items → ((w : List ℕ) → number new w ≡ number old w)
    → Holds new (branches_below (size old) (at old) (below_in (at old 0)))
unchanged old new whole slots numbers =
    let P : (List ℕ → Option ℕ) → Type 0 = λ f. IsWhole (at new) f (size new) in
    let Q : List Slot → Type 0 = λ ss. IsWhole (laid ss) (number old) (length ss) in
    record {
      whole = subst P (λ i w. sym (numbers w) i) (subst Q (sym slots) whole);
      reads = ap (λ ss. branches_below (length ss) (laid ss) (below_in (laid ss 0))) slots;
    }

-- in the one case and in the other
pub part_ends : {X : Type 0} {E : Type 0} (r : Result X E) (old new : Arena) (i place : ℕ) (head : List ℕ) (second : Provision) (moved : List ℕ) → IsWhole (at old) (number old) (size old) → climbs (size old) (at old) i ≡ true → (i ≡ 0 → ⊥)
    → is_in second.wid (body_of old) ≡ false → moved ≡ drop place (below_in (at old i)) → is_num second.own.num ≡ true
    → OnOk r (IsParted old new i place head second moved) → OnErr r (new.slots.items ≡ old.slots.items) → OnErr r ((w : List ℕ) → number new w ≡ number old w)
    → OnOk r (Holds new (changed (parted place head second) (provision_in (at old i)).wid (body_of old))) × OnErr r (Holds new (body_of old))
part_ends (Ok x) old new i place head second moved whole climbed other fresh are num is slots_kept numbers_kept = (parted_arena old i whole climbed other new place head second moved are is fresh num, tt)
part_ends (Err e) old new i place head second moved whole climbed other fresh are num is slots_kept numbers_kept = (tt, unchanged old new whole slots_kept numbers_kept)
