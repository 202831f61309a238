use Rattle.std.proofs.Common.{arith}
use Rattle.entry_codec.proofs.Decoding.{decoded_spelling, decoded_keeps}
use Rattle.entry_codec.proofs.Rules.{entry_able, entry_well}
use Rattle.entry_codec.proofs.laws.decoded_is_spelled.Goals as goal

pub returns-clause-spelling : goal.returns-clause-spelling
returns-clause-spelling c = decoded_spelling c.args.bytes.now (λ i. omega (arith, c.type_inv.bytes i))

pub returns-clause-kept : goal.returns-clause-kept
returns-clause-kept c = decoded_keeps c.args.bytes.now (λ i. omega (arith, c.type_inv.bytes i))

pub returns-clause-well : goal.returns-clause-well
returns-clause-well c = λ e h. entry_well e (decoded_keeps c.args.bytes.now (λ i. omega (arith, c.type_inv.bytes i)) e h)

pub returns-clause-able : goal.returns-clause-able
returns-clause-able c = λ e h. entry_able e (decoded_keeps c.args.bytes.now (λ i. omega (arith, c.type_inv.bytes i)) e h)
