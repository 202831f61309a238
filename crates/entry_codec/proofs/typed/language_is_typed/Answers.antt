use Rattle.std.proofs.Common.{arith}
use Rattle.entry_codec.proofs.typed.language_is_typed.Goals as goal

pub returns : goal.returns
returns c = record { three = omega arith; bytes = c.bytes_are_typed.ensures }
