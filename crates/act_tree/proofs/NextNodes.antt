-- The next sibling of a node of a tree.
use Rattle.std.proofs.Common.{◌≡◌, ◌∙◌, sym, ap, ℕ, ◌<◌, ◌==◌, true, false, ◌||◌, List, Option, Some, option_map, IfSome, None, arith}
use Rattle.std.specs.Str.{bytes_eq}
use Rattle.act_tree.specs.Branches.{heights}
use Rattle.act_tree.specs.Changes.{any_holds, next_of, root_wid}
use Rattle.act_tree.specs.Arena.{Laid, provision_in, above_in, below_in, branches_below, branch_from, hangs_on, climbs, IsWhole}
use Rattle.act_tree.specs.Siblings.{number_behind}
use Rattle.act_tree.specs.Slots.{at, number, size}
use Rattle.act_tree.proofs.Texts.{other_text}
use Rattle.act_tree.proofs.TreeNodes.{node_seated, node_laid, found_held}
use Rattle.act_tree.proofs.Finding.{leads_to_root}
use Rattle.act_tree.proofs.Climbing.{listed_above}
use Rattle.act_tree.proofs.SiblingNodes.{IsChild, next_branch, next_child}
use Rattle.act_tree.proofs.TakingAway.{above_climbs, leads_there, named_there}
use Rattle.std.specs.List.{list_any}

-- what is known of a node that is not the root
pub record IsProvision (at : ℕ → Option Laid) (number : List ℕ → Option ℕ) (size i : ℕ) : Type 0 where
  pub here : (x : Laid) × (at i ≡ Some x)
  pub leads : number (provision_in (at i)).wid ≡ Some i
  pub held : any_holds (provision_in (at i)).wid (branches_below size at (below_in (at 0))) ≡ true
  pub above : climbs size at (above_in (at i)) ≡ true
  pub listed : list_any (λ j. j == i) (below_in (at (above_in (at i)))) ≡ true

pub is_provision : (at : ℕ → Option Laid) (number : List ℕ → Option ℕ) (size : ℕ) → IsWhole at number size → (i : ℕ) → climbs size at i ≡ true → (i ≡ 0 → ⊥) → IsProvision at number size i
is_provision at number size whole i climbed other =
    let w : List ℕ = (provision_in (at i)).wid in
    let seat = node_seated at number size whole i climbed in
    let leads : number w ≡ Some i = leads_there at number seat.it (above_in (at i)) i seat.stands in
    let apart : bytes_eq w root_wid ≡ false = other_text w root_wid (λ is. other ((leads_to_root at number size whole w i leads).1 is)) in
    let low : heights (branches_below size at (below_in (at 0))) < size = whole.low in
    let up : (hangs_on i (at i) ≡ true) × (climbs size at (above_in (at i)) ≡ true) = above_climbs at size i climbed other (omega arith) in
    record {
      here = node_laid at number size whole i climbed;
      leads = leads;
      held = sym (ap (λ t. t || any_holds w (branches_below size at (below_in (at 0)))) apart) ∙ found_held at number size whole w i leads climbed;
      above = up.1;
      listed = listed_above at i (at i) up.0 (whole.hung i);
    }

pub next_sibling : (at : ℕ → Option Laid) (number : List ℕ → Option ℕ) (size : ℕ) → IsWhole at number size → (i : ℕ) → climbs size at i ≡ true → (i ≡ 0 → ⊥)
    → option_map (branch_from size at) (number_behind i (below_in (at (above_in (at i))))) ≡ next_of (provision_in (at i)).wid (branches_below size at (below_in (at 0)))
next_sibling at number size whole i climbed other =
    let it : IsProvision at number size i = is_provision at number size whole i climbed other in
    next_branch at number size whole (provision_in (at i)).wid i it.leads (named_there (at i) it.here.0 it.here.1) it.held

-- and that is a node, but not the root
pub next_node : (at : ℕ → Option Laid) (number : List ℕ → Option ℕ) (size : ℕ) → IsWhole at number size → (i : ℕ) → climbs size at i ≡ true → (i ≡ 0 → ⊥)
    → (o : Option ℕ) → o ≡ number_behind i (below_in (at (above_in (at i)))) → IfSome o (λ x. climbs size at x ≡ true)
next_node at number size whole i climbed other None is = tt
next_node at number size whole i climbed other (Some x) is =
    let it : IsProvision at number size i = is_provision at number size whole i climbed other in
    let child : IsChild at number size whole (above_in (at i)) x = next_child at number size whole i x it.above (sym is) in
    child.climbed

pub next_other : (at : ℕ → Option Laid) (number : List ℕ → Option ℕ) (size : ℕ) → IsWhole at number size → (i : ℕ) → climbs size at i ≡ true → (i ≡ 0 → ⊥)
    → (o : Option ℕ) → o ≡ number_behind i (below_in (at (above_in (at i)))) → IfSome o (λ x. x ≡ 0 → ⊥)
next_other at number size whole i climbed other None is = tt
next_other at number size whole i climbed other (Some x) is =
    let it : IsProvision at number size i = is_provision at number size whole i climbed other in
    let child : IsChild at number size whole (above_in (at i)) x = next_child at number size whole i x it.above (sym is) in
    child.other
