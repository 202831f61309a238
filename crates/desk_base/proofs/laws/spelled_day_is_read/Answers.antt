use Rattle.desk_base.proofs.DayLaws.{day_read}
use Rattle.desk_base.proofs.laws.spelled_day_is_read.Goals as goal

pub returns : goal.returns
returns c = day_read c.args._number
