use Rattle.law_refs.proofs.Opening.{opening_hands_in}
use Rattle.law_refs.proofs.laws.an_opening_hands_in.Goals as goal

pub returns : goal.returns
returns c = opening_hands_in
