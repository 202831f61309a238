-- A level of the nodes left is taken exactly where one of all is, for none of those passed is.
use Rattle.std.proofs.Common.{◌≡◌, drop}
use Rattle.act_tree.specs.Branches.{branches_of}
use Rattle.act_tree.specs.EidLevels.{levels_on}
use Rattle.act_tree.specs.Seen.{tree_view}
use Rattle.act_tree.specs.Specs.{specs_view}
use Rattle.textual_mods.specs.Insertions.{on_among}
use Rattle.textual_mods.specs.Substitutions.{left_below}
use Rattle.textual_mods.proofs.brought.go_on_again.Given as goal

abbrev pub invariant-loop-node : goal.invariant-loop-node
invariant-loop-node l =
    on_among (levels_on (tree_view l.tree).numbering (left_below l.tree l.gone l.parent)) (tree_view l.tree).numbering (branches_of (specs_view (drop l.node-index l.node-items)))
    ≡ on_among (levels_on (tree_view l.tree).numbering (left_below l.tree l.gone l.parent)) (tree_view l.tree).numbering (branches_of (specs_view l.node-items))
