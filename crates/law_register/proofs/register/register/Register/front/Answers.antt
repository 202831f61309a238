use Rattle.std.proofs.Common.{arith}
use Rattle.law_register.proofs.Legal.{legal_front}
use Rattle.law_register.proofs.register.register.Register.front.Goals as goal

pub returns-clause-most : goal.returns-clause-most
returns-clause-most c = omega (arith, c.self.invariant.stands.front, legal_front c.self.inside.entries.items c.self.invariant.legal)
