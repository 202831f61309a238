-- The count so far, with what is left of the nodes from here on, is the count of what is left of all.
use Rattle.std.proofs.Common.{◌≡◌, ◌+◌, ◌≤◌, min, map, drop}
use Rattle.act_tree.specs.Branches.{branches_of, counts, heights}
use Rattle.act_tree.specs.Seen.{branch_at}
use Rattle.textual_mods.specs.Substitutions.{left, wid_of}
use Rattle.textual_mods.proofs.staying.+count_of_left.Given as goal

abbrev pub decreases-count_of_left : goal.decreases-count_of_left
decreases-count_of_left l = heights (branches_of (map (branch_at l.tree.now) l.ids.now))

abbrev pub invariant-loop-id : goal.invariant-loop-id
invariant-loop-id l =
    (l.total ≤ 4294967295)
    × (min (l.total + counts (left (wid_of l.tree l.gone) (branches_of (map (branch_at l.tree) (drop l.id-index l.ids))))) 4294967295
    ≡ min (counts (left (wid_of l.tree l.gone) (branches_of (map (branch_at l.tree) l.ids)))) 4294967295)
