use Rattle.source_provisions.proofs.Looking.{nothing_looked_at}
use Rattle.source_provisions.proofs.laws.what_is_not_looked_at_changes_nothing.Goals as goal

pub returns : goal.returns
returns c = nothing_looked_at
