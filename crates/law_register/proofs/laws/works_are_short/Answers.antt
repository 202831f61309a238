use Rattle.law_register.proofs.ShortNames.{short_work}
use Rattle.law_register.proofs.laws.works_are_short.Goals as goal

pub returns : goal.returns
returns c = short_work c.args.work.now c.date.result c.date.ensures
