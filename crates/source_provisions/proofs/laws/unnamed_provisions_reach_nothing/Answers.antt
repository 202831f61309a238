use Rattle.source_provisions.proofs.Touching.{touched_alone}
use Rattle.source_provisions.proofs.laws.unnamed_provisions_reach_nothing.Goals as goal

pub returns : goal.returns
returns c = touched_alone
