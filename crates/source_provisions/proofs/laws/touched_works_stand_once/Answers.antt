use Rattle.source_provisions.proofs.Once.{touched_once}
use Rattle.source_provisions.proofs.laws.touched_works_stand_once.Goals as goal

pub returns : goal.returns
returns c = touched_once
