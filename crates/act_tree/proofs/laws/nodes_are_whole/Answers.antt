use Rattle.act_tree.specs.Branches.{listed-branches_of}
use Rattle.act_tree.proofs.laws.nodes_are_whole.Goals as goal

pub returns : goal.returns
returns c = listed-branches_of c.args.nodes.now
