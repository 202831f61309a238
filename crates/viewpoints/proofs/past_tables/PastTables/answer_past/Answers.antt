use Rattle.std.proofs.Common.{ap, is_some, arith}
use Rattle.std.proofs.lemmas.Result.{err_from_is_err_and}
use Rattle.viewpoints.proofs.Bringing.{told}
use Rattle.viewpoints.proofs.WhenEnacted.{enacted_costs_nothing}
use Rattle.viewpoints.proofs.past_tables.PastTables.answer_past.Goals as goal

pub returns-in-None-clause-steps : goal.returns-in-None-clause-steps
returns-in-None-clause-steps g c =
    let nothing = enacted_costs_nothing c.args.register.now.entries c.args.question.now c.entries_are_legal.ensures c.in-None.is in
    omega (arith, nothing, c.answer_replayed.ensures.steps)

pub returns-in_err-bring-in-Some-clause-answer : goal.returns-in_err-bring-in-Some-clause-answer
returns-in_err-bring-in-Some-clause-answer g c =
    let p = err_from_is_err_and c.from_residual.result c.from_residual.ensures.1 in
    rw (p.1, p.2) (told c.args.register.now.entries c.args.question.now c.in_err-bring-in-Some.field-0.0 (ap is_some c.in-Some.is) c.in_err-bring-in-Some.ensures.judged)
