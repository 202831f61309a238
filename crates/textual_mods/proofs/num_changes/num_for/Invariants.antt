-- The pairs that are left give a node what all give it, for none of those passed names it.
use Rattle.std.proofs.Common.{◌≡◌, drop}
use Rattle.textual_mods.specs.NumChanges.{num_by_node}
use Rattle.textual_mods.proofs.num_changes.num_for.Given as goal

abbrev pub invariant-loop-node : goal.invariant-loop-node
invariant-loop-node l = num_by_node (drop l.node-index l.named) l.id l.before ≡ num_by_node l.named l.id l.before
