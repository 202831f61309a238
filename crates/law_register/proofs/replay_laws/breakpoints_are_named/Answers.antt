use Rattle.law_register.proofs.NamedDays.{breakpoints_named}
use Rattle.law_register.proofs.replay_laws.breakpoints_are_named.Goals as goal

pub returns : goal.returns
returns c = breakpoints_named c.args._known.now
