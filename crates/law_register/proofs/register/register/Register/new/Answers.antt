use Rattle.std.proofs.Common.{sym, subst, List, refl}
use Rattle.law_register.specs.declared.register.entry.Entry.{Entry}
use Rattle.law_register.specs.Register.Registers.{IsKept}
use Rattle.law_register.proofs.register.register.Register.new.Goals as goal

pub invariant_of-result : goal.invariant_of-result
invariant_of-result c =
    let P : List Entry → Type 0 = λ es. IsKept c.new-2.result es in
    subst P (sym c.new.ensures.items) (record { legal = refl; spelled = refl; stands = c.new-2.ensures })
