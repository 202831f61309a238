use Rattle.law_register.proofs.WhenEnacted.{enacted_bare}
use Rattle.law_register.proofs.laws.enacted_acts_are_bare.Goals as goal

pub returns : goal.returns
returns c = enacted_bare
