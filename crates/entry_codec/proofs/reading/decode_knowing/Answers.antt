use Rattle.std.proofs.Common.{arith}
use Rattle.entry_codec.proofs.Rules.{given_well, given_able}
use Rattle.entry_codec.proofs.reading.decode_knowing.Goals as goal

pub returns-clause-well : goal.returns-clause-well
returns-clause-well c = given_well c.args.bytes.now (λ i. omega (arith, c.type_inv.bytes i)) c.decoded.result c.decoded.ensures

pub returns-clause-able : goal.returns-clause-able
returns-clause-able c = given_able c.args.bytes.now (λ i. omega (arith, c.type_inv.bytes i)) c.decoded.result c.decoded.ensures
