use Rattle.law_register.proofs.ShortNames.{short_work}
use Rattle.law_register.proofs.register.indexes.fits_in_a_key.Goals as goal

pub returns : goal.returns
returns c = short_work c.args.work.now c.date.result c.date.ensures
