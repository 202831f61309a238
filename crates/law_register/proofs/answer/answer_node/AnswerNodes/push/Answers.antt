use Rattle.act_tree.specs.declared.limits.TheConstants.{MAX_DEPTH}
use Rattle.law_register.proofs.LowAnswers.{one_more_low}
use Rattle.law_register.proofs.answer.answer_node.AnswerNodes.push.Goals as goal

pub invariant_of-self-2 : goal.invariant_of-self-2
invariant_of-self-2 c = rw c.in_ok-push.ensures.items (one_more_low MAX_DEPTH _ _ c.self.invariant c.requires.depth)
