use Rattle.act_tree.proofs.EidsOfTree.{node_among}
use Rattle.act_tree.proofs.laws.eid_of_a_node_is_found.Goals as goal

pub returns : goal.returns
returns c = node_among c.args.tree.now c.args.id c.args.eid.now c.requires
