use Rattle.source_provisions.proofs.Carrying.{unnamed_carry_nothing}
use Rattle.source_provisions.proofs.laws.unnamed_provisions_carry_nothing.Goals as goal

pub returns : goal.returns
returns c = unnamed_carry_nothing
