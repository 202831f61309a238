use Rattle.std.proofs.Common.{sym, ◌∙◌}
use Rattle.act_tree.proofs.Ways.{eid_up_is}
use Rattle.act_tree.proofs.LowNodes.{steps_low}
use Rattle.act_tree.proofs.tree.Tree.eid_of.Goals as goal

pub eid_of_number-requires-clause-depth : goal.eid_of_number-requires-clause-depth
eid_of_number-requires-clause-depth c = steps_low c.args.self.now c.args.id c.requires.node

pub returns : goal.returns
returns c = eid_up_is c.args.self.now c.args.id c.requires.node ∙ sym c.in_ok-eid.ensures
