use Rattle.act_tree.specs.Seen.{tree_view}
use Rattle.edit_laws.proofs.TreesAfter.{split_taken_back}
use Rattle.act_tree.proofs.WidsDiffer.{wids_differ}
use Rattle.edit_laws.proofs.laws.join_undoes_split.Goals as goal

pub returns-clause-undone : goal.returns-clause-undone
returns-clause-undone c =
    (split_taken_back (tree_view c.args.tree.now) c.args.by c.args.other c.args.wid.now c.args.at.now c.args.num.now c.args.heading.now c.requires.fits (wids_differ c.args.tree.now) c.requires.fresh c.requires.made).made

pub returns-clause-same : goal.returns-clause-same
returns-clause-same c =
    (split_taken_back (tree_view c.args.tree.now) c.args.by c.args.other c.args.wid.now c.args.at.now c.args.num.now c.args.heading.now c.requires.fits (wids_differ c.args.tree.now) c.requires.fresh c.requires.made).same
