use Rattle.std.proofs.Common.{◌≡◌, ap, subst, true, List}
use Rattle.law_register.specs.declared.register.entry.Entry.{Entry}
use Rattle.law_register.specs.Register.Registers.{Contents}
use Rattle.law_register.specs.Register.Verdicts.{is_legal}
use Rattle.law_register.proofs.laws.entries_are_legal.Goals as goal

pub returns : goal.returns
returns c =
    let P : List Entry → Type 0 = λ es. is_legal es ≡ true in
    subst P (ap (λ (s : Contents). s.entries) c.register.view_is) c.register.invariant.legal
