use Rattle.std.proofs.Common.{◌+◌, ◌≤◌, subst}
use Rattle.law_register.specs.declared.answer.question.Reading.TheVariants.{Force}
use Rattle.law_register.specs.Answer.Costs.{revision_cost}
use Rattle.version_cache.proofs.work_tables.WorkTables.revise_force.Goals as goal

pub revise_on-requires-clause-right : goal.revise_on-requires-clause-right
revise_on-requires-clause-right g c = c.requires.right.right Force

pub returns-clause-steps : goal.returns-clause-steps
returns-clause-steps g c =
    subst (λ r. c.revise_on.new.steps ≤ c.args.steps.now + revision_cost c.args.known.now r c.args.day) (c.requires.right.readings Force) c.revise_on.ensures.steps
