use Rattle.std.proofs.Common.{Some, subst, sym}
use Rattle.version_cache.specs.Seen.{work_view}
use Rattle.version_cache.specs.Works.{AreRightUntil, WorkValue}
use Rattle.version_cache.proofs.Renewed.{both_steps, right_before}
use Rattle.version_cache.proofs.work_tables.WorkTables.revise_both.Goals as goal

pub revise_force-requires-clause-right : goal.revise_force-requires-clause-right
revise_force-requires-clause-right g c = right_before c.args.known.now c.args.touched c.in-Some.day (work_view c.args.self.now) c.in-Some.is c.requires.right

pub revise_efficacy-requires-clause-right : goal.revise_efficacy-requires-clause-right
revise_efficacy-requires-clause-right g c =
    subst (λ (work : WorkValue). AreRightUntil c.args.known.now (Some c.in-Some.day) work) (sym c.revise_force.ensures.same)
    (right_before c.args.known.now c.args.touched c.in-Some.day (work_view c.args.self.now) c.in-Some.is c.requires.right)

pub returns-in_err-efficacy-clause-steps : goal.returns-in_err-efficacy-clause-steps
returns-in_err-efficacy-clause-steps g c =
    both_steps c.args.known.now c.args.touched c.in-Some.day c.args.steps.now c.revise_force.new.steps c.revise_efficacy.new.steps c.in-Some.is
    c.revise_force.ensures.steps c.revise_efficacy.ensures.steps

pub returns-clause-steps : goal.returns-clause-steps
returns-clause-steps g c =
    both_steps c.args.known.now c.args.touched c.in-Some.day c.args.steps.now c.revise_force.new.steps c.revise_efficacy.new.steps c.in-Some.is
    c.revise_force.ensures.steps c.revise_efficacy.ensures.steps
