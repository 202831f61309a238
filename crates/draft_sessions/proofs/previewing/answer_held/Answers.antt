use Rattle.std.proofs.Common.{◌∙◌, ◌+◌, ◌≤◌, subst, ℕ, List, arith}
use Rattle.law_register.specs.declared.register.known.Known.{Known}
use Rattle.law_register.specs.Answer.Answers.{Answers, answer_on}
use Rattle.law_register.specs.Answer.Costs.{bearing_by}
use Rattle.law_register.specs.Provisions.Carrying.{carrying}
use Rattle.law_register.specs.Provisions.Costs.{held_cost}
use Rattle.law_register.specs.Provisions.Line.{line}
use Rattle.law_register.specs.Register.LawList.{laws}
use Rattle.draft_sessions.proofs.Answering.{carried_now, cost_now}
use Rattle.draft_sessions.proofs.previewing.answer_held.Goals as goal

pub returns-clause-answer : goal.returns-clause-answer
returns-clause-answer g c =
    subst (λ (held : Known). Answers c.answer_by.result (answer_on held c.args.question.now))
    (c.in_ok-held.ensures.known ∙ carried_now c.args.register.now.entries c.front.result c.args.known c.front.ensures.value)
    c.answer_by.ensures.answer

pub returns-clause-steps : goal.returns-clause-steps
returns-clause-steps g c =
    let works : List Known = line (laws c.args.register.now.entries) in
    let paid : c.answer_by.new.steps ≤ c.carry.new.steps + bearing_by c.args.question.now (carrying works c.args.known) =
    subst (λ (held : Known). c.answer_by.new.steps ≤ c.carry.new.steps + bearing_by c.args.question.now held)
    (c.in_ok-held.ensures.known ∙ carried_now c.args.register.now.entries c.front.result c.args.known c.front.ensures.value)
    c.answer_by.ensures.steps in
    let first : c.carry.new.steps ≤ c.args.steps.now + held_cost works c.args.known =
    subst (λ (n : ℕ). c.carry.new.steps ≤ c.args.steps.now + n) (cost_now c.args.register.now.entries c.front.result c.args.known c.front.ensures.value) c.carry.ensures.steps in
    omega (arith, paid, first)
