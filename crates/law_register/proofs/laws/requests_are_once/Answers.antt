use Rattle.std.proofs.Common.{ap, subst, List}
use Rattle.law_register.specs.declared.register.entry.Entry.{Entry}
use Rattle.law_register.specs.Register.Registers.{Contents}
use Rattle.law_register.proofs.Once.{Once, legal_once}
use Rattle.law_register.proofs.laws.requests_are_once.Goals as goal

pub returns : goal.returns
returns c =
    let P : List Entry → Type 0 = λ es. Once es in
    subst P (ap (λ (s : Contents). s.entries) c.register.view_is) (legal_once c.register.inside.entries.items c.register.invariant.legal)
