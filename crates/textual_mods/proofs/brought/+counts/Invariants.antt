-- The count so far and the nodes left are as many as all nodes.
use Rattle.std.proofs.Common.{◌≡◌, ◌+◌, ◌≤◌, drop, min}
use Rattle.act_tree.specs.Branches.{branches_of, counts}
use Rattle.act_tree.specs.Specs.{specs_view}
use Rattle.textual_mods.proofs.brought.+counts.Given as goal

abbrev pub invariant-count_of_all-loop-node : goal.invariant-count_of_all-loop-node
invariant-count_of_all-loop-node l = record {
  total : min (l.total + counts (branches_of (specs_view (drop l.node-index l.node-items)))) 4294967295
      ≡ min (counts (branches_of (specs_view l.node-items))) 4294967295;
  fits : l.total ≤ 4294967295;
}
