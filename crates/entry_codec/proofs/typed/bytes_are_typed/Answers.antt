use Rattle.std.proofs.Common.{arith}
use Rattle.entry_codec.proofs.Exact.{are_bytes}
use Rattle.entry_codec.proofs.typed.bytes_are_typed.Goals as goal

pub returns : goal.returns
returns c = are_bytes c.args._bytes.now (λ i. omega (arith, c.type_inv._bytes i))
