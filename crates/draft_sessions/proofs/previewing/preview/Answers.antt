use Rattle.std.proofs.Common.{◌≡◌, ◌∙◌, ◌+◌, ◌≤◌, ap, sym, subst, ℕ, Some, None, Result}
use Rattle.law_register.specs.declared.answer.answer.Answer.{Answer}
use Rattle.law_register.specs.declared.answer.question.Question.{Question}
use Rattle.law_register.specs.declared.answer.queries.QueryRule.{QueryRule}
use Rattle.law_register.specs.Answer.Answers.{Answers, answer_on}
use Rattle.law_register.specs.Answer.Costs.{bearing_by}
use Rattle.law_register.specs.Answer.Previews.{known_previewed}
use Rattle.law_register.specs.Provisions.Carrying.{carrying}
use Rattle.law_register.specs.Provisions.Costs.{held_cost}
use Rattle.law_register.specs.Provisions.Line.{line}
use Rattle.law_register.specs.Register.LawList.{laws}
use Rattle.draft_sessions.proofs.Answering.{cost_is, preview_is, unknown_is}
use Rattle.draft_sessions.proofs.previewing.preview.Goals as goal

pub returns-in_ok-asked-in-Some-clause-answer : goal.returns-in_ok-asked-in-Some-clause-answer
returns-in_ok-asked-in-Some-clause-answer g c =
    let es = c.args.register.now.entries in
    let d = c.args.drafter.now in
    let q = c.args.question.now in
    let known = c.in-Some.known in
    let told = c.in_ok-known.ensures.known in
    let is = c.in-Some.is in
    let same : known_previewed es d q.work ≡ Some known = cc in
    let P : Result Answer QueryRule → Type 0 = λ answer. Answers c.answer_held.result answer in
    subst P (ap (answer_on (carrying (line (laws es)) known)) c.in_ok-asked-in-Some.ensures ∙ sym (preview_is es d q known same)) c.answer_held.ensures.answer

pub returns-in_ok-asked-in-Some-clause-steps : goal.returns-in_ok-asked-in-Some-clause-steps
returns-in_ok-asked-in-Some-clause-steps g c =
    let es = c.args.register.now.entries in
    let d = c.args.drafter.now in
    let q = c.args.question.now in
    let known = c.in-Some.known in
    let told = c.in_ok-known.ensures.known in
    let is = c.in-Some.is in
    let same : known_previewed es d q.work ≡ Some known = cc in
    let P : ℕ → Type 0 = λ cost. c.answer_held.new.steps ≤ c.args.steps.now + cost in
    let works = line (laws es) in
    subst P
    (ap (λ (asked : Question). held_cost works known + bearing_by asked (carrying works known)) c.in_ok-asked-in-Some.ensures ∙ sym (cost_is es d q known same))
    c.answer_held.ensures.steps

pub returns-in-None-clause-answer : goal.returns-in-None-clause-answer
returns-in-None-clause-answer g c =
    let es = c.args.register.now.entries in
    let d = c.args.drafter.now in
    let q = c.args.question.now in
    let told = c.in_ok-known.ensures.known in
    let is = c.in-None.is in
    let same : known_previewed es d q.work ≡ None = cc in
    let P : Result Answer QueryRule → Type 0 = λ answer. Answers c.answer_by.result answer in
    subst P (sym (unknown_is es d q same)) c.answer_by.ensures.answer
