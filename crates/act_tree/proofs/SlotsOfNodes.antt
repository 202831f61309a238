-- The slot of a node of a tree.
use Rattle.std.proofs.Common.{◌≡◌, ◌∙◌, ap, ℕ, ◌<◌, true, length, get_or, Some}
use Rattle.act_tree.specs.declared.arena.Slot.{Slot}
use Rattle.act_tree.specs.declared.tree.Tree.{Tree}
use Rattle.act_tree.specs.Arena.{Laid, provision_in}
use Rattle.act_tree.specs.Seen.{has_node, provision_at}
use Rattle.act_tree.specs.Slots.{laid_of, provision_of, at, number, size}
use Rattle.act_tree.proofs.LaidDown.{laid_within, laid_slot}
use Rattle.act_tree.proofs.TreeNodes.{node_laid}

-- the place of a node is one of a slot
pub node_within : (t : Tree) (i : ℕ) → has_node t i ≡ true → i < length t.arena.slots.items
unfolding has_node
node_within t i node =
    let some : (x : Laid) × (at t.arena i ≡ Some x) = node_laid (at t.arena) (number t.arena) (size t.arena) t.whole i node in
    laid_within t.arena.slots.items i some.0 some.1

-- what is laid down for a node is what its slot says
pub node_slot : (t : Tree) (i j : ℕ) (s : Slot) → has_node t i ≡ true → j ≡ i → s ≡ get_or t.arena.slots.items j s → at t.arena i ≡ Some (laid_of s)
node_slot t i j s node place it = laid_slot t.arena.slots.items i s (node_within t i node) (it ∙ ap (λ k. get_or t.arena.slots.items k s) place)

-- what a node's slot says is what the node says
pub node_says : (t : Tree) (i j : ℕ) (s : Slot) → has_node t i ≡ true → j ≡ i → s ≡ get_or t.arena.slots.items j s → provision_at t i ≡ provision_of s
unfolding provision_at
node_says t i j s node place it = ap provision_in (node_slot t i j s node place it)
