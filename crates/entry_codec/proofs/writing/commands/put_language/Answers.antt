use Rattle.std.proofs.Common.{arith}
use Rattle.entry_codec.proofs.Exact.{are_bytes}
use Rattle.entry_codec.proofs.writing.commands.put_language.Goals as goal

pub returns-clause-typed : goal.returns-clause-typed
returns-clause-typed c = record {
  three = omega arith;
  bytes = are_bytes c.args.language.now (λ i. omega (arith, c.fits-language i));
}
