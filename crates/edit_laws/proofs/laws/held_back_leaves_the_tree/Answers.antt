use Rattle.act_tree.specs.Seen.{tree_view}
use Rattle.edit_laws.proofs.TreesAfter.{held_back}
use Rattle.edit_laws.proofs.laws.held_back_leaves_the_tree.Goals as goal

pub returns : goal.returns
returns c = held_back (tree_view c.args.tree.now) c.args.by c.args.edit.now c.args.cause c.requires
