use Rattle.law_register.proofs.DueOnce.{order_members}
use Rattle.law_register.proofs.replay_laws.order_has_what_bears.Goals as goal

pub returns : goal.returns
returns c = order_members c.args._known.now c.args._reading c.args._day
