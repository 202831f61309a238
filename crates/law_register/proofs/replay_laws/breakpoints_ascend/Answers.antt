use Rattle.law_register.proofs.NamedDays as days
use Rattle.law_register.proofs.replay_laws.breakpoints_ascend.Goals as goal

pub returns : goal.returns
returns c = days.breakpoints_ascend c.args._known.now
