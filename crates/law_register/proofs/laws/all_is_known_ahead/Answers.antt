use Rattle.law_register.proofs.WhenEnacted.{known_ahead}
use Rattle.law_register.proofs.laws.all_is_known_ahead.Goals as goal

pub returns : goal.returns
returns c = known_ahead
