use Rattle.std.proofs.Common.{arith}
use Rattle.entry_codec.proofs.TypedParts.{text_typed}
use Rattle.entry_codec.proofs.writing.texts.put_text.Goals as goal

pub returns-clause-typed : goal.returns-clause-typed
returns-clause-typed c = text_typed c.args.text.now c.utf8.text (λ i. omega (arith, c.type_inv.text i))
