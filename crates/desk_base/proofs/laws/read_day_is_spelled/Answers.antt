use Rattle.desk_base.proofs.DayLaws.{day_spelled}
use Rattle.desk_base.proofs.laws.read_day_is_spelled.Goals as goal

pub returns : goal.returns
returns c = λ found. (day_spelled c.args._text.now c.args._number found).1
