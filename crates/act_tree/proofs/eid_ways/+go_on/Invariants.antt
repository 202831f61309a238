-- A way goes down from the children that are left exactly if one does from all.
use Rattle.std.proofs.Common.{◌≡◌, map, drop}
use Rattle.act_tree.specs.Branches.{branches_of, height}
use Rattle.act_tree.specs.Seen.{tree_view, branch_at, below_at}
use Rattle.act_tree.specs.WaysDown.{has_way}
use Rattle.act_tree.proofs.eid_ways.+go_on.Given as goal

abbrev pub decreases-go_on : goal.decreases-go_on
decreases-go_on l = height (branch_at l.tree.now l.id)

abbrev pub invariant-loop-child : goal.invariant-loop-child
invariant-loop-child l =
    has_way (tree_view l.tree).numbering (drop l.named l.levels) (branches_of (map (branch_at l.tree) (drop l.child-index l.children)))
    ≡ has_way (tree_view l.tree).numbering (drop l.named l.levels) (below_at l.tree l.fn.id)
