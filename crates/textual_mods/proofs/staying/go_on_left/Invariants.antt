-- A level goes on at what is left of the nodes from here on exactly if it does at what is left of all, for those passed have another.
use Rattle.std.proofs.Common.{◌≡◌, map, drop}
use Rattle.eid_paths.specs.Levels.{level_text}
use Rattle.act_tree.specs.Branches.{branches_of}
use Rattle.act_tree.specs.EidLevels.{levels_on}
use Rattle.act_tree.specs.Seen.{tree_view, branch_at}
use Rattle.act_tree.specs.Wids.{is_among}
use Rattle.textual_mods.specs.Substitutions.{left, wid_of}
use Rattle.textual_mods.proofs.staying.go_on_left.Given as goal

abbrev pub invariant-loop-id : goal.invariant-loop-id
invariant-loop-id l =
    is_among (level_text l.element l.num) (levels_on (tree_view l.tree).numbering (left (wid_of l.tree l.gone) (branches_of (map (branch_at l.tree) (drop l.id-index l.ids)))))
    ≡ is_among (level_text l.element l.num) (levels_on (tree_view l.tree).numbering (left (wid_of l.tree l.gone) (branches_of (map (branch_at l.tree) l.ids))))
