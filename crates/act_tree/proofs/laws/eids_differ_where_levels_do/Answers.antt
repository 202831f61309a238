use Rattle.act_tree.specs.Arena.{branches_below, below_in}
use Rattle.act_tree.specs.Seen.{tree_view}
use Rattle.act_tree.specs.Slots.{at, number, size}
use Rattle.act_tree.proofs.LevelsDiffer.{levels_decide}
use Rattle.act_tree.proofs.Sound.{text_numbered}
use Rattle.act_tree.proofs.laws.eids_differ_where_levels_do.Goals as goal

pub returns : goal.returns
unfolding tree_view
returns c =
    let t = c.args.tree.now in
    levels_decide t.numbering (branches_below (size t.arena) (at t.arena) (below_in (at t.arena 0))) (text_numbered (at t.arena) (number t.arena) (size t.arena) t.whole)
