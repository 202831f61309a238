use Rattle.act_tree.specs.Seen.{tree_view}
use Rattle.edit_laws.proofs.OldOrBrought.{old_or_new}
use Rattle.edit_laws.proofs.laws.wids_are_old_or_brought.Goals as goal

pub returns : goal.returns
returns c = old_or_new (tree_view c.args.tree.now) c.args.by c.args.edit.now c.args.wid.now c.requires
