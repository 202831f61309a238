use Rattle.std.proofs.Common.{arith}
use Rattle.law_register.proofs.Legal.{legal_size}
use Rattle.law_register.proofs.register.register.Register.size.Goals as goal

pub returns-clause-most : goal.returns-clause-most
returns-clause-most c = omega (arith, c.self.invariant.stands.size, legal_size c.self.inside.entries.items c.self.invariant.legal)
