use Rattle.std.proofs.Common.{arith}
use Rattle.desk_base.proofs.Calendar.{number_days}
use Rattle.desk_base.proofs.day.number_of.Goals as goal

pub overflow_sub-result : goal.overflow_sub-result
overflow_sub-result c = omega (arith, number_days c.args.date c.days_since_min.result c.requires c.days_since_min.ensures.value)

pub returns-clause-value : goal.returns-clause-value
returns-clause-value c = omega (arith, number_days c.args.date c.days_since_min.result c.requires c.days_since_min.ensures.value)

pub returns-clause-bound : goal.returns-clause-bound
returns-clause-bound c =
    let found = number_days c.args.date c.days_since_min.result c.requires c.days_since_min.ensures.value in
    (omega arith, omega arith)
