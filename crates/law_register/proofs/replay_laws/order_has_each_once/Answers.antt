use Rattle.law_register.proofs.DueOnce.{order_once}
use Rattle.law_register.proofs.replay_laws.order_has_each_once.Goals as goal

pub returns : goal.returns
returns c = order_once c.args._known.now c.args._reading c.args._day c.requires.ids
