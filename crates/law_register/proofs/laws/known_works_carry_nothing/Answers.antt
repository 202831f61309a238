use Rattle.law_register.proofs.CarryingNothing.{known_at_alone, known_by_law_alone}
use Rattle.law_register.proofs.laws.known_works_carry_nothing.Goals as goal

pub returns-clause-laws : goal.returns-clause-laws
returns-clause-laws c = known_by_law_alone

pub returns-clause-viewpoints : goal.returns-clause-viewpoints
returns-clause-viewpoints c = known_at_alone
