use Rattle.source_provisions.proofs.Days.{days_of_all}
use Rattle.source_provisions.proofs.laws.days_are_own_and_of_sources.Goals as goal

pub returns : goal.returns
returns c = days_of_all
