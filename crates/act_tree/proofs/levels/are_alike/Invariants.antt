-- A level of the nodes that are left was noted, or stands among them twice, exactly if one of all stands twice.
use Rattle.std.proofs.Common.{◌≡◌, [], map, drop}
use Rattle.act_tree.specs.Branches.{branches_of}
use Rattle.act_tree.specs.EidLevels.{levels_on}
use Rattle.act_tree.specs.Seen.{tree_view, branch_at}
use Rattle.act_tree.specs.Surveys.{repeats}
use Rattle.act_tree.proofs.levels.are_alike.Given as goal

abbrev pub invariant-loop-id : goal.invariant-loop-id
invariant-loop-id l =
    repeats l.levels.keys (levels_on (tree_view l.tree).numbering (branches_of (map (branch_at l.tree) (drop l.id-index l.ids))))
    ≡ repeats [] (levels_on (tree_view l.tree).numbering (branches_of (map (branch_at l.tree) l.ids)))
