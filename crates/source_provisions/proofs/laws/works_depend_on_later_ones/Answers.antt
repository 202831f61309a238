use Rattle.source_provisions.proofs.Looking.{chain_goes_on}
use Rattle.source_provisions.proofs.laws.works_depend_on_later_ones.Goals as goal

pub returns : goal.returns
returns c = chain_goes_on
