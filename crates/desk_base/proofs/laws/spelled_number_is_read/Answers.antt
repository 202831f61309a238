use Rattle.std.proofs.Common.{arith}
use Rattle.desk_base.proofs.Numerals.{number_read}
use Rattle.desk_base.proofs.laws.spelled_number_is_read.Goals as goal

pub returns : goal.returns
returns c = λ within. number_read c.args._most c.args._number within (omega (arith, c.ranges._number))
