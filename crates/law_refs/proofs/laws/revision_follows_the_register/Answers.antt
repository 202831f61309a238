use Rattle.law_refs.proofs.Revised.{revision_follows}
use Rattle.law_refs.proofs.laws.revision_follows_the_register.Goals as goal

pub returns : goal.returns
returns c = revision_follows
