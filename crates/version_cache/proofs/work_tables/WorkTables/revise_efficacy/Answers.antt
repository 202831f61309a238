use Rattle.std.proofs.Common.{◌∙◌, ◌+◌, ◌≤◌, ap, sym, subst}
use Rattle.std.proofs.lemmas.Result.{IfOk-weaker}
use Rattle.law_register.specs.declared.answer.question.Reading.TheVariants.{Efficacy}
use Rattle.law_register.specs.Answer.Costs.{revision_cost}
use Rattle.version_cache.specs.Readings.{has_efficacy}
use Rattle.version_cache.specs.Seen.{revision_view, work_view}
use Rattle.version_cache.proofs.OneVersion.{revised_like}
use Rattle.version_cache.proofs.work_tables.WorkTables.revise_efficacy.Goals as goal

pub revise_on-requires-clause-right : goal.revise_on-requires-clause-right
revise_on-requires-clause-right g c = c.requires.right.right Efficacy

pub returns-then-has_efficacy-clause-steps : goal.returns-then-has_efficacy-clause-steps
returns-then-has_efficacy-clause-steps g c =
    subst (λ r. c.revise_on.new.steps ≤ c.args.steps.now + revision_cost c.args.known.now r c.args.day) (c.requires.right.readings Efficacy) c.revise_on.ensures.steps

pub returns-else-has_efficacy-clause-revision : goal.returns-else-has_efficacy-clause-revision
returns-else-has_efficacy-clause-revision g c =
    IfOk-weaker c.revise_like.result _ _
    (λ revision e. revised_like c.args.known.now (sym (c.has_efficacy.ensures ∙ ap has_efficacy c.as_slice.ensures) ∙ c.if-has_efficacy.false) c.args.day (work_view c.args.self.now)
    (revision_view c.args.force.now) (revision_view revision) c.requires.right c.requires.force e)
    c.revise_like.ensures
