-- The nodes left on both sides are the same exactly where all are, for those passed are.
use Rattle.std.proofs.Common.{◌≡◌, drop}
use Rattle.act_tree.specs.SameNodes.{same_nodes}
use Rattle.act_tree.specs.Specs.{specs_view}
use Rattle.act_tree.proofs.same_nodes.+same.Given as goal

abbrev pub invariant-are_same_nodes-loop-i : goal.invariant-are_same_nodes-loop-i
invariant-are_same_nodes-loop-i l =
    same_nodes (specs_view (drop l.i l.a-inside.items.items)) (specs_view (drop l.i l.b-inside.items.items)) ≡ same_nodes l.a l.b
