use Rattle.std.proofs.Common.{◌≤◌, ap, arith, subst, List, length}
use Rattle.law_register.specs.declared.register.entry.Entry.{Entry}
use Rattle.law_register.specs.Register.Registers.{Contents}
use Rattle.law_register.proofs.Legal.{entries_few, legal_size}
use Rattle.law_register.proofs.laws.entries_are_few.Goals as goal

pub returns : goal.returns
returns c =
    let es = c.register.inside.entries.items in
    let P : List Entry → Type 0 = λ es. length es ≤ 536870912 in
    subst P (ap (λ (s : Contents). s.entries) c.register.view_is) (omega (arith, entries_few es, legal_size es c.register.invariant.legal))
