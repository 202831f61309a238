use Rattle.act_tree.proofs.KeptNumbers.{one_node}
use Rattle.act_tree.proofs.laws.nodes_are_told_by_wids.Goals as goal

pub returns : goal.returns
returns c = one_node c.args.tree.now c.args.one c.args.other c.requires.one c.requires.other c.requires.same
