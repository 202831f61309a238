use Rattle.desk_base.proofs.Calendar.{text_ascii}
use Rattle.desk_base.proofs.day.Day.spelled.Goals as goal

pub unreachable-requires : goal.unreachable-requires
unreachable-requires c = c.in-Err.ensures.cases.0 (rw c.put.ensures (text_ascii c.args.self))
