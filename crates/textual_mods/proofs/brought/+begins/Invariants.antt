-- A level of the nodes left is taken exactly where one of all is, for none of those passed is.
use Rattle.std.proofs.Common.{◌≡◌, true, drop}
use Rattle.act_tree.specs.Branches.{branches_of}
use Rattle.act_tree.specs.EidLevels.{all_beginning}
use Rattle.act_tree.specs.Faults.{all_owns}
use Rattle.act_tree.specs.Seen.{tree_view}
use Rattle.act_tree.specs.Specs.{specs_view}
use Rattle.textual_mods.specs.Insertions.{all_begun_among}
use Rattle.textual_mods.specs.Substitutions.{text_left}
use Rattle.textual_mods.proofs.brought.+begins.Given as goal

abbrev pub invariant-begin_again-loop-node : goal.invariant-begin_again-loop-node
invariant-begin_again-loop-node l =
    all_begun_among (all_beginning (tree_view l.tree).numbering true (all_owns (text_left l.tree l.gone))) (tree_view l.tree).numbering l.top (branches_of (specs_view (drop l.node-index l.node-items)))
    ≡ all_begun_among (all_beginning (tree_view l.tree).numbering true (all_owns (text_left l.tree l.gone))) (tree_view l.tree).numbering l.top (branches_of (specs_view l.node-items))
