-- The question is asked at the front.
use Rattle.std.proofs.Common.{◌≡◌, ◌∙◌, ap, arith}
use Rattle.law_register.specs.Register.LawList.{front}
use Rattle.law_register.specs.declared.answer.question.Question.{Question}
use Rattle.law_generator.proofs.Steps.{viewpoint_is}
use Rattle.law_generator.proofs.generating.asked.Goals as goal

pub ask-told-requires : goal.ask-told-requires
ask-told-requires g c =
    let same : c.in_ok-question.question.viewpoint ≡ front (g.D.Desk.state c.args.desk.now).entries =
    ap (λ (q : Question). q.viewpoint) c.in_ok-question.ensures ∙ viewpoint_is c.front.result ∙ c.front.ensures in
    omega (arith, same)
