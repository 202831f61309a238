use Rattle.law_register.proofs.Next.{entry_apart, now_counts}
use Rattle.law_register.proofs.laws.other_works_stay.Goals as goal

pub returns-clause-others : goal.returns-clause-others
returns-clause-others c = entry_apart

pub returns-clause-counts : goal.returns-clause-counts
returns-clause-counts c = now_counts
