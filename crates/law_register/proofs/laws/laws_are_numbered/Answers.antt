use Rattle.std.proofs.Common.{◌≡◌, ap, subst, List}
use Rattle.law_register.specs.declared.register.entry.Entry.{Entry}
use Rattle.law_register.specs.Register.LawList.{front, law_numbers, first_numbers}
use Rattle.law_register.specs.Register.Registers.{Contents}
use Rattle.law_register.proofs.Once.{legal_numbers}
use Rattle.law_register.proofs.laws.laws_are_numbered.Goals as goal

pub returns : goal.returns
returns c =
    let P : List Entry → Type 0 = λ es. law_numbers es ≡ first_numbers (front es) in
    subst P (ap (λ (s : Contents). s.entries) c.register.view_is) (legal_numbers c.register.inside.entries.items c.register.invariant.legal)
