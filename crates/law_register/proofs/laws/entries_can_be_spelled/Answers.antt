use Rattle.std.proofs.Common.{◌≡◌, ap, subst, true, List}
use Rattle.law_register.specs.Law.Spellable.{can_all_be_spelled}
use Rattle.law_register.specs.declared.register.entry.Entry.{Entry}
use Rattle.law_register.specs.Register.Registers.{Contents}
use Rattle.law_register.proofs.Spellable.{all_can}
use Rattle.law_register.proofs.laws.entries_can_be_spelled.Goals as goal

pub returns : goal.returns
returns c =
    let P : List Entry → Type 0 = λ es. can_all_be_spelled es ≡ true in
    subst P (ap (λ (s : Contents). s.entries) c.register.view_is) (all_can c.register.inside.entries.items c.register.invariant.legal c.register.invariant.spelled)
