use Rattle.act_tree.specs.Seen.{tree_view}
use Rattle.edit_laws.proofs.TreesAfter.{left_in_tree}
use Rattle.act_tree.proofs.WidsDiffer.{wids_differ}
use Rattle.edit_laws.proofs.laws.what_stays_keeps_its_wid.Goals as goal

pub returns : goal.returns
returns c = left_in_tree (tree_view c.args.tree.now) c.args.by c.args.edit.now (wids_differ c.args.tree.now) c.requires.fresh c.requires.made
