use Rattle.law_refs.proofs.Entering.{entry_hands_in}
use Rattle.law_refs.proofs.laws.an_entry_hands_in.Goals as goal

pub returns : goal.returns
returns c = entry_hands_in
