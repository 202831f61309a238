use Rattle.law_refs.proofs.Handed.{handed_in}
use Rattle.law_refs.proofs.laws.revision_has_what_was_handed_in.Goals as goal

pub returns : goal.returns
returns c = handed_in
