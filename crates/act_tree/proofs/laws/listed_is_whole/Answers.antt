use Rattle.act_tree.specs.Branches.{branches_of-listed}
use Rattle.act_tree.specs.Seen.{tree_view}
use Rattle.act_tree.proofs.laws.listed_is_whole.Goals as goal

pub returns : goal.returns
returns c = branches_of-listed (tree_view c.args.tree.now).body
