-- A level goes on at the nodes that are left exactly if it does at one of all, for those passed have another.
use Rattle.std.proofs.Common.{◌≡◌, drop}
use Rattle.eid_paths.specs.Levels.{level_text}
use Rattle.act_tree.specs.LevelsOfNodes.{levels_at}
use Rattle.act_tree.specs.Wids.{is_among}
use Rattle.act_tree.proofs.levels.goes_on.Given as goal

abbrev pub invariant-loop-id : goal.invariant-loop-id
invariant-loop-id l =
    is_among (level_text l.element l.num) (levels_at l.tree (drop l.id-index l.ids))
    ≡ is_among (level_text l.element l.num) (levels_at l.tree l.ids)
