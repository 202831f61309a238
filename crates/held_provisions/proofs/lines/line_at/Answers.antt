use Rattle.std.proofs.Common.{◌≡◌, sym, subst, take}
use Rattle.std.proofs.lemmas.Result.{IfOk-weaker}
use Rattle.std.specs.List.{AllByRecursion}
use Rattle.law_register.specs.declared.register.known.Known.{Known}
use Rattle.law_register.specs.Answer.Soundness.{IsSound}
use Rattle.law_register.specs.Answer.Standing.{alone}
use Rattle.law_register.specs.Register.LawList.{laws}
use Rattle.held_provisions.proofs.Until.{line_alone, line_sound}
use Rattle.held_provisions.proofs.lines.line_at.Goals as goal

pub returns-clause-sound : goal.returns-clause-sound
returns-clause-sound c =
    IfOk-weaker c.line_until.result _ _
    (λ works e. subst (AllByRecursion IsSound) (sym e) (line_sound c.args.register.now.entries c.args.viewpoint c.entries_are_legal.ensures))
    c.line_until.ensures

pub returns-clause-alone : goal.returns-clause-alone
returns-clause-alone c =
    IfOk-weaker c.line_until.result _ _
    (λ works e. subst (AllByRecursion (λ (k : Known). alone k ≡ k)) (sym e) (line_alone (take c.args.viewpoint (laws c.args.register.now.entries))))
    c.line_until.ensures
