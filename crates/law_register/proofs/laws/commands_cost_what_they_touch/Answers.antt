use Rattle.law_register.proofs.Renewing.{drafting_is_free, entry_is_paid, judging_is_paid, untouched_is_free}
use Rattle.law_register.proofs.laws.commands_cost_what_they_touch.Goals as goal

pub returns-clause-accepted : goal.returns-clause-accepted
returns-clause-accepted c = entry_is_paid

pub returns-clause-judged : goal.returns-clause-judged
returns-clause-judged c = judging_is_paid

pub returns-clause-untouched : goal.returns-clause-untouched
returns-clause-untouched c = untouched_is_free

pub returns-clause-drafting : goal.returns-clause-drafting
returns-clause-drafting c = drafting_is_free
