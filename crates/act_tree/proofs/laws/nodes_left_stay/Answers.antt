use Rattle.act_tree.proofs.KeptNumbers.{all_stay}
use Rattle.act_tree.proofs.laws.nodes_left_stay.Goals as goal

pub returns : goal.returns
returns c = all_stay c.args.earlier.now c.args.later.now c.requires.nodes c.requires.wids
