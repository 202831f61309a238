use Rattle.std.proofs.Common.{◌≡◌, ◌∙◌, sym, ap, subst, ◌+◌, ◌≤◌, List, take}
use Rattle.std.proofs.lemmas.Result.{IfOk-weaker}
use Rattle.std.specs.List.{AllByRecursion}
use Rattle.law_register.specs.declared.law.command.Command.{Command}
use Rattle.law_register.specs.declared.register.known.Known.{Known}
use Rattle.law_register.specs.Answer.Soundness.{IsSound}
use Rattle.law_register.specs.Answer.Standing.{alone}
use Rattle.law_register.specs.Register.LawList.{laws}
use Rattle.law_register.specs.Provisions.Carrying.{carrying}
use Rattle.law_register.specs.Provisions.Costs.{held_cost}
use Rattle.law_register.specs.Provisions.Line.{IsLine, line}
use Rattle.held_provisions.proofs.FoundWorks.{same_works}
use Rattle.held_provisions.proofs.knowing.carried_at.Goals as goal

pub returns-then-not-names_any-clause-known : goal.returns-then-not-names_any-clause-known
returns-then-not-names_any-clause-known g c =
    sym (c.unnamed_provisions_carry_nothing.ensures (line (take c.args.viewpoint (laws c.args.register.now.entries))) c.args.known
    (sym c.names_any.ensures ∙ c.if-not-names_any.true) ∙ c.requires)

pub carried_from-requires-clause-line : goal.carried_from-requires-clause-line
carried_from-requires-clause-line g c =
    let law : List Command = take c.args.viewpoint (laws c.args.register.now.entries) in
    subst IsLine (sym (same_works c.as_slice.result.now ∙ c.as_slice.ensures.value ∙ c.in_ok-works.ensures.works)) (c.laws_have_lines.ensures law)

pub carried_from-requires-clause-sound : goal.carried_from-requires-clause-sound
carried_from-requires-clause-sound g c =
    subst (AllByRecursion IsSound) (sym (same_works c.as_slice.result.now ∙ c.as_slice.ensures.value)) c.in_ok-works.ensures.sound

pub carried_from-requires-clause-each_alone : goal.carried_from-requires-clause-each_alone
carried_from-requires-clause-each_alone g c =
    subst (AllByRecursion (λ (k : Known). alone k ≡ k)) (sym (same_works c.as_slice.result.now ∙ c.as_slice.ensures.value)) c.in_ok-works.ensures.alone

pub returns-clause-known : goal.returns-clause-known
returns-clause-known g c =
    IfOk-weaker c.carried_from.result _ _
    (λ carried e. e
    ∙ ap (λ (ks : List Known). carrying ks c.args.known) (same_works c.as_slice.result.now ∙ c.as_slice.ensures.value ∙ c.in_ok-works.ensures.works))
    c.carried_from.ensures.known

pub returns-clause-steps : goal.returns-clause-steps
returns-clause-steps g c =
    subst (λ (ks : List Known). c.carried_from.new.steps ≤ c.args.steps.now + held_cost ks c.args.known)
    (same_works c.as_slice.result.now ∙ c.as_slice.ensures.value ∙ c.in_ok-works.ensures.works) c.carried_from.ensures.steps
