use Rattle.law_refs.proofs.Opening.{opening_judges}
use Rattle.law_refs.proofs.laws.an_opening_judges.Goals as goal

pub returns : goal.returns
returns c = opening_judges
