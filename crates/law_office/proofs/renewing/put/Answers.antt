use Rattle.std.proofs.Common.{arith}
use Rattle.law_register.proofs.Puts.{on_ok}
use Rattle.law_office.proofs.renewing.put.Goals as goal

pub returns-clause-value : goal.returns-clause-value
returns-clause-value g c = (on_ok c.insert.result _ (c.insert.ensures.succeeds (omega (arith, c.requires))) c.insert.ensures.updates).0

pub returns-clause-entries : goal.returns-clause-entries
returns-clause-entries g c = on_ok c.insert.result _ (c.insert.ensures.succeeds (omega (arith, c.requires))) c.insert.ensures.entries
