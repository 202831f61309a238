use Rattle.law_refs.proofs.Anew.{revision_right}
use Rattle.law_refs.proofs.laws.revision_is_right.Goals as goal

pub returns : goal.returns
returns c = revision_right
