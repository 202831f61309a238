-- The nums of the nodes left keep the rule exactly where those of all do, for those passed do.
use Rattle.std.proofs.Common.{◌≡◌, drop}
use Rattle.act_tree.specs.Branches.{branches_of}
use Rattle.act_tree.specs.Specs.{specs_view}
use Rattle.textual_mods.specs.Insertions.{have_nums}
use Rattle.textual_mods.proofs.brought.+nums.Given as goal

abbrev pub invariant-nums_are_kept-loop-node : goal.invariant-nums_are_kept-loop-node
invariant-nums_are_kept-loop-node l =
    have_nums (branches_of (specs_view (drop l.node-index l.node-items))) ≡ have_nums (branches_of (specs_view l.node-items))
