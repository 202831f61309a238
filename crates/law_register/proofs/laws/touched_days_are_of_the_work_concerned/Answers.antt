use Rattle.law_register.proofs.TouchedWorks.{days_are, works_are}
use Rattle.law_register.proofs.laws.touched_days_are_of_the_work_concerned.Goals as goal

pub returns-clause-days : goal.returns-clause-days
returns-clause-days c = days_are

pub returns-clause-works : goal.returns-clause-works
returns-clause-works c = works_are
