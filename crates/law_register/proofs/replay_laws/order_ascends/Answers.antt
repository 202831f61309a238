use Rattle.law_register.proofs.DueOnce.{due_ascends}
use Rattle.law_register.proofs.replay_laws.order_ascends.Goals as goal

pub returns : goal.returns
returns c = due_ascends c.args._known.now c.args._reading c.args._day
