use Rattle.act_tree.specs.Seen.{tree_view}
use Rattle.act_tree.proofs.ChangeLaws.{none_left}
use Rattle.act_tree.proofs.laws.none_is_left.Goals as goal

pub returns : goal.returns
returns c = none_left c.args.wid.now (tree_view c.args.tree.now).body
