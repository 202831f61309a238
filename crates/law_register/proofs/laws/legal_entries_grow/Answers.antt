use Rattle.law_register.proofs.Snoc.{legal_more}
use Rattle.law_register.proofs.laws.legal_entries_grow.Goals as goal

pub returns-clause-more : goal.returns-clause-more
returns-clause-more c = legal_more
