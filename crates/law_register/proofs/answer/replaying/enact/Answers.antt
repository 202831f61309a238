use Rattle.std.proofs.Common.{rules}
use Rattle.law_register.proofs.Continuing.{enacted_replayed}
use Rattle.law_register.proofs.answer.replaying.enact.Goals as goal

pub returns-in-Ok-clause-replayed : goal.returns-in-Ok-clause-replayed
returns-in-Ok-clause-replayed c = enacted_replayed c.args.act.now c.requires _ (search rules)
