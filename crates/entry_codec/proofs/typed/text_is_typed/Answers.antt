use Rattle.std.proofs.Common.{arith}
use Rattle.entry_codec.proofs.TypedParts.{text_typed}
use Rattle.entry_codec.proofs.typed.text_is_typed.Goals as goal

pub returns : goal.returns
returns c = text_typed c.args._text.now c.utf8._text (λ i. omega (arith, c.type_inv._text i))
