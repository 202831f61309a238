-- The tallest so far and the nodes left are as high as all nodes.
use Rattle.std.proofs.Common.{◌≡◌, ◌≤◌, drop, max, min}
use Rattle.act_tree.specs.Branches.{branches_of, heights}
use Rattle.act_tree.specs.Specs.{specs_view}
use Rattle.textual_mods.proofs.brought.+heights.Given as goal

abbrev pub invariant-height_of_all-loop-node : goal.invariant-height_of_all-loop-node
invariant-height_of_all-loop-node l = record {
  tallest : min (max l.tallest (heights (branches_of (specs_view (drop l.node-index l.node-items))))) 4294967295
      ≡ min (heights (branches_of (specs_view l.node-items))) 4294967295;
  fits : l.tallest ≤ 4294967295;
}
