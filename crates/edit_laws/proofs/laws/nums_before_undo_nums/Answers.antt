use Rattle.act_tree.specs.Seen.{tree_view}
use Rattle.edit_laws.proofs.TreesAfter.{nums_taken_back}
use Rattle.act_tree.proofs.WidsDiffer.{wids_differ}
use Rattle.edit_laws.proofs.laws.nums_before_undo_nums.Goals as goal

pub returns-clause-undone : goal.returns-clause-undone
returns-clause-undone c = (nums_taken_back (tree_view c.args.tree.now) c.args.by c.args.other c.args.pairs.now c.requires.fits (wids_differ c.args.tree.now) c.requires.made).made

pub returns-clause-same : goal.returns-clause-same
returns-clause-same c = (nums_taken_back (tree_view c.args.tree.now) c.args.by c.args.other c.args.pairs.now c.requires.fits (wids_differ c.args.tree.now) c.requires.made).same
