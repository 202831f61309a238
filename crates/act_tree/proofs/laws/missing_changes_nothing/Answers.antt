use Rattle.act_tree.specs.Seen.{tree_view}
use Rattle.act_tree.proofs.ChangeLaws.{same_without}
use Rattle.act_tree.proofs.laws.missing_changes_nothing.Goals as goal

pub returns : goal.returns
returns c = same_without c.args.wid.now (tree_view c.args.tree.now).body c.requires
