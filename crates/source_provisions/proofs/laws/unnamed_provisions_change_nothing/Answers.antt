use Rattle.source_provisions.proofs.Days as days
use Rattle.source_provisions.proofs.Looking.{all_by_themselves}
use Rattle.source_provisions.proofs.laws.unnamed_provisions_change_nothing.Goals as goal

pub returns-clause-texts : goal.returns-clause-texts
returns-clause-texts c = all_by_themselves

pub returns-clause-days : goal.returns-clause-days
returns-clause-days c = days.days_by_themselves

pub returns-clause-independent : goal.returns-clause-independent
returns-clause-independent c = days.independent
