use Rattle.act_tree.specs.declared.limits.TheConstants.{MAX_NESTED}
use Rattle.act_tree.proofs.LowSpecs.{one_more_low}
use Rattle.act_tree.proofs.node_spec.Nodes.push.Goals as goal

pub invariant_of-self-2 : goal.invariant_of-self-2
invariant_of-self-2 c = rw c.in_ok-push.ensures.items (one_more_low MAX_NESTED _ _ c.self.invariant c.requires.depth)
