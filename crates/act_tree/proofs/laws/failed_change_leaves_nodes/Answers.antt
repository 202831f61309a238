use Rattle.act_tree.proofs.KeptNumbers.{same_nodes, says_the_same}
use Rattle.act_tree.proofs.laws.failed_change_leaves_nodes.Goals as goal

pub returns-clause-nodes : goal.returns-clause-nodes
returns-clause-nodes c = same_nodes c.args.earlier.now c.args.later.now c.args.id c.requires.stay c.requires.text

pub returns-clause-says : goal.returns-clause-says
returns-clause-says c = says_the_same c.args.earlier.now c.args.later.now c.args.id c.requires.stay c.requires.text
