-- The wIds so far, with those of the nodes that are left, are those before and those of all.
use Rattle.std.proofs.Common.{◌≡◌, ◌++◌, map, drop}
use Rattle.act_tree.specs.Branches.{branches_of, heights}
use Rattle.act_tree.specs.Seen.{branch_at}
use Rattle.act_tree.specs.Wids.{all_wids}
use Rattle.law_reports.proofs.correspondences.+add_wids.Given as goal

abbrev pub decreases-add_wids : goal.decreases-add_wids
decreases-add_wids l = heights (branches_of (map (branch_at l.tree.now) l.ids.now))

abbrev pub invariant-loop-id : goal.invariant-loop-id
invariant-loop-id l =
    l.wids.items ++ all_wids (branches_of (map (branch_at l.tree) (drop l.id-index l.ids)))
    ≡ l.initial.wids.items ++ all_wids (branches_of (map (branch_at l.tree) l.ids))
