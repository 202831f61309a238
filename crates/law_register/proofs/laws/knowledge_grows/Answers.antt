use Rattle.law_register.proofs.Next.{entry_next}
use Rattle.law_register.proofs.laws.knowledge_grows.Goals as goal

pub returns : goal.returns
returns c = entry_next
