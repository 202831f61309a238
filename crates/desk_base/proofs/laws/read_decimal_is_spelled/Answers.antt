use Rattle.std.proofs.Common.{arith}
use Rattle.desk_base.proofs.Numerals.{number_spelled}
use Rattle.desk_base.proofs.laws.read_decimal_is_spelled.Goals as goal

pub returns : goal.returns
returns c = λ found. number_spelled c.args._most c.args._number c.args._text.now (omega (arith, c.ranges._number)) found
