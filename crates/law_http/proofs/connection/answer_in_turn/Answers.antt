use Rattle.std.proofs.Common.{◌∙◌, sym, refl}
use Rattle.turn_lock.specs.Passes.{made_by, seen_by}
use Rattle.law_http.proofs.InTurn.{nothing_answered, refused_answered}
use Rattle.law_http.proofs.connection.answer_in_turn.Goals as goal

pub returns-in-Ok-Ok-clause-answers : goal.returns-in-Ok-Ok-clause-answers
returns-in-Ok-Ok-clause-answers g c = c.ask_in_turn.ensures.answers c.args.request.now refl (sym c.in-Ok-Ok.ensures.value ∙ c.in-Ok-Ok.field-0-is)

pub returns-in-Ok-Err-clause-answers : goal.returns-in-Ok-Err-clause-answers
returns-in-Ok-Err-clause-answers g c =
    refused_answered c.args.request.now (seen_by c.args.pass.now) (made_by c.args.pass.now) c.in-Ok-Err.refusal c.refused_request.result
    (sym c.in-Ok-Err.ensures.value ∙ c.in-Ok-Err.field-0-is) c.refused_request.ensures

pub returns-in-Err-clause-answers : goal.returns-in-Err-clause-answers
returns-in-Err-clause-answers g c = nothing_answered c.args.request.now (seen_by c.args.pass.now) (made_by c.args.pass.now)
