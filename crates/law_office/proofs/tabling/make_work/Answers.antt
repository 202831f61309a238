use Rattle.std.proofs.Common.{◌∙◌, sym, subst, Option}
use Rattle.std.specs.Option.{IfSome}
use Rattle.law_register.specs.declared.register.known.Known.{Known}
use Rattle.law_register.specs.Answer.Soundness.{IsSound}
use Rattle.source_provisions.proofs.HeldNow.{held_sound}
use Rattle.law_office.proofs.tabling.make_work.Goals as goal

pub make-requires : goal.make-requires
make-requires g c =
    subst (λ (held : Option Known). IfSome held IsSound) (sym c.in_ok-held.ensures ∙ c.in-Some.is)
    (held_sound c.args.register.now.entries c.args.work.now c.entries_are_legal.ensures)
