-- The number of a node is told by its wId, and stays.
use Rattle.std.proofs.Common.{◌≡◌, ◌∙◌, sym, ap, ℕ, true, List, Option, Some, None, inl, inr}
use Rattle.std.proofs.lemmas.Bool.{cases_Bool, cases_eq}
use Rattle.act_tree.specs.declared.tree.Tree.{Tree}
use Rattle.act_tree.specs.Arena.{provision_in, branch_from, root_provision}
use Rattle.act_tree.specs.Branches.{Branch, branch}
use Rattle.act_tree.specs.Changes.{is_in, found, holds}
use Rattle.act_tree.specs.NodesStay.{NodesStay}
use Rattle.act_tree.specs.Provisions.{Provision}
use Rattle.act_tree.specs.Seen.{tree_view, has_node, provision_at, branch_at}
use Rattle.act_tree.specs.Slots.{at, number, size}
use Rattle.act_tree.proofs.Climbing.{found_climbs, has_number}
use Rattle.act_tree.proofs.FoundNodes.{found_at}
use Rattle.act_tree.proofs.StayingNodes.{leads_node}
use Rattle.act_tree.proofs.TreeNodes.{found_held, found_wid, is_in-holds}

-- two nodes of one wId are one
pub one_node : (t : Tree) (i k : ℕ) → has_node t i ≡ true → has_node t k ≡ true → (provision_at t i).wid ≡ (provision_at t k).wid → i ≡ k
unfolding has_node provision_at
one_node t i k one other same =
    let both : Some i ≡ Some k = sym (leads_node t.arena t.whole i one) ∙ ap (number t.arena) same ∙ leads_node t.arena t.whole k other in
    cc

-- the wId of a node is in the text
pub wid_there : (t : Tree) (i : ℕ) → has_node t i ≡ true → is_in (provision_at t i).wid (tree_view t).body ≡ true
unfolding has_node provision_at tree_view
wid_there t i node =
    found_held (at t.arena) (number t.arena) (size t.arena) t.whole (provision_in (at t.arena i)).wid i (leads_node t.arena t.whole i node) node

-- the node of its wId afterwards is the same number
pub same_number : (old new : Tree) (i k : ℕ) → NodesStay old new → has_node old i ≡ true → has_node new k ≡ true → (provision_at new k).wid ≡ (provision_at old i).wid → k ≡ i
unfolding NodesStay
same_number old new i k stay before after same =
    let still : (has_node new i ≡ true) × ((provision_at new i).wid ≡ (provision_at old i).wid) =
    stay i before (ap (λ w. is_in w (tree_view new).body) (sym same) ∙ wid_there new k after) in
    one_node new k i after still.0 (same ∙ sym still.1)

-- nodes that are all left under their wIds stay
pub all_stay : (old new : Tree) → ((k : ℕ) → has_node new k ≡ has_node old k) → ((k : ℕ) → (provision_at new k).wid ≡ (provision_at old k).wid) → NodesStay old new
unfolding NodesStay
all_stay old new nodes wids = λ k node held. (nodes k ∙ node, wids k)

-- the node of a wId that is in the text
node_of : (t : Tree) (w : List ℕ) → is_in w (tree_view t).body ≡ true → (j : ℕ) × ((has_node t j ≡ true) × ((provision_at t j).wid ≡ w))
unfolding has_node provision_at tree_view
node_of t w held =
    let inside : holds w (branch_from (size t.arena) (at t.arena) 0) ≡ true = sym (is_in-holds (at t.arena) (number t.arena) (size t.arena) t.whole w) ∙ held in
    let it : (j : ℕ) × (number t.arena w ≡ Some j) = has_number (at t.arena) (number t.arena) (branch_from (size t.arena) (at t.arena) 0) w 0 0 t.whole.stands inside in (
      it.0,
      (
        found_climbs (at t.arena) (number t.arena) (size t.arena) t.whole w it.0 inside it.1,
        found_wid (at t.arena) (number t.arena) (size t.arena) t.whole w it.0 it.1,
      ),
    )

root_says : (t : Tree) (k : ℕ) → k ≡ 0 → provision_at t k ≡ root_provision
unfolding provision_at
root_says t k root = ap (λ i. provision_in (at t.arena i)) root ∙ t.whole.root

-- where nodes stay and the text is as it was, the same numbers are nodes, and each says what it said
module _ (old new : Tree) (k : ℕ) (stay : NodesStay old new) (same : tree_view new ≡ tree_view old) where
  after : has_node old k ≡ true → (has_node new k ≡ true) × ((provision_at new k).wid ≡ (provision_at old k).wid)
  unfolding NodesStay
  after node = stay k node (ap (λ v. is_in (provision_at old k).wid v.body) same ∙ wid_there old k node)

  before : has_node new k ≡ true → has_node old k ≡ true
  before node =
      let it = node_of old (provision_at new k).wid (ap (λ v. is_in (provision_at new k).wid v.body) (sym same) ∙ wid_there new k node) in
      ap (has_node old) (same_number old new it.0 k stay it.1.0 node (sym it.1.1)) ∙ it.1.0

  pub same_nodes : has_node new k ≡ has_node old k
  same_nodes = elim (cases_Bool (has_node old k)) [
    | inl there ↦ (after there).0 ∙ sym there
    | inr none ↦ elim (cases_Bool (has_node new k)) [
      | inl node ↦ absurd (let there : has_node old k ≡ true = before node in cc)
      | inr free ↦ free ∙ sym none
    ]
  ]

  pub says_the_same : has_node old k ≡ true → provision_at new k ≡ provision_at old k
  unfolding branch_at provision_at
  says_the_same node = elim (cases_eq k 0) [
    | inl root ↦ root_says new k root ∙ sym (root_says old k root)
    | inr other ↦ ap says_of (sym (found_at new k (after node).0 other) ∙ ap (λ w. found w (tree_view new).body) (after node).1 ∙ ap (λ v. found (provision_at old k).wid v.body) same ∙ found_at old k node other)
  ]
    where
      says_of : Option (Branch Provision) → Provision
      says_of None = root_provision
      says_of (Some (branch p below)) = p
