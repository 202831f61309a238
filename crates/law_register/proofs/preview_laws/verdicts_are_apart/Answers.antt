use Rattle.std.proofs.Common.{◌≡◌, true, ap, subst, List}
use Rattle.law_register.specs.declared.register.entry.Entry.{Entry}
use Rattle.law_register.specs.Register.Registers.{Contents}
use Rattle.law_register.specs.Register.Verdicts.{is_legal}
use Rattle.law_register.proofs.ApartVerdicts.{same_verdict}
use Rattle.law_register.proofs.preview_laws.verdicts_are_apart.Goals as goal

pub returns : goal.returns
returns c request command =
    let P : List Entry → Type 0 = λ es. is_legal es ≡ true in
    same_verdict c.args._drafter.now request command c.args.one.now.entries c.args.other.now.entries
    (subst P (ap (λ (s : Contents). s.entries) c.one.view_is) c.one.invariant.legal)
    (subst P (ap (λ (s : Contents). s.entries) c.other.view_is) c.other.invariant.legal)
    c.requires.law c.requires.own
