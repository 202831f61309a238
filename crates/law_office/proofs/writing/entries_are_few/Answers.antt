use Rattle.std.proofs.Common.{arith}
use Rattle.law_register.proofs.Legal.{entries_few, legal_size}
use Rattle.law_office.proofs.writing.entries_are_few.Goals as goal

pub returns : goal.returns
returns c =
    let es = c.args.register.now.entries in
    omega (arith, entries_few es, legal_size es c.entries_are_legal.ensures)
