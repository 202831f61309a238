-- What is found by the wId of a node, and the nums of a tree.
use Rattle.std.proofs.Common.{◌≡◌, ℕ, true, Some}
use Rattle.act_tree.specs.declared.tree.Tree.{Tree}
use Rattle.act_tree.specs.Arena.{provision_in}
use Rattle.act_tree.specs.Changes.{found}
use Rattle.act_tree.specs.Numbered.{are_numbered}
use Rattle.act_tree.specs.Seen.{tree_view, has_node, provision_at, branch_at}
use Rattle.act_tree.specs.Slots.{at, number, size}
use Rattle.act_tree.proofs.Finding.{found_node}
use Rattle.act_tree.proofs.Sound.{text_numbered}
use Rattle.act_tree.proofs.StayingNodes.{leads_node}

-- the provision of a node is found by its wId
pub found_at : (t : Tree) (i : ℕ) → has_node t i ≡ true → (i ≡ 0 → ⊥) → found (provision_at t i).wid (tree_view t).body ≡ Some (branch_at t i)
unfolding has_node tree_view provision_at branch_at
found_at t i node other =
    found_node (at t.arena) (number t.arena) (size t.arena) t.whole (provision_in (at t.arena i)).wid i (leads_node t.arena t.whole i node) node other

-- the nums of a tree keep the rule of nums
pub nums_kept : (t : Tree) → are_numbered (tree_view t).body ≡ true
unfolding tree_view
nums_kept t = text_numbered (at t.arena) (number t.arena) (size t.arena) t.whole
