-- The count so far, with the nodes that are left, is the count of all.
use Rattle.std.proofs.Common.{◌≡◌, ◌+◌, ◌-◌, ◌^◌, ◌≤◌, min, map, drop}
use Rattle.act_tree.specs.Branches.{branches_of, counts, heights}
use Rattle.act_tree.specs.Seen.{branch_at}
use Rattle.act_tree.proofs.walks.+count.Given as goal

abbrev pub decreases-count : goal.decreases-count
decreases-count l = heights (branches_of (map (branch_at l.tree.now) l.ids.now))

abbrev pub invariant-loop-id : goal.invariant-loop-id
invariant-loop-id l =
    (l.total ≤ 2 ^ 32 - 1)
    × (min (l.total + counts (branches_of (map (branch_at l.tree) (drop l.id-index l.ids)))) (2 ^ 32 - 1)
    ≡ min (counts (branches_of (map (branch_at l.tree) l.ids))) (2 ^ 32 - 1))
