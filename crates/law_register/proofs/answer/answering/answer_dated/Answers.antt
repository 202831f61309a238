use Rattle.std.proofs.Common.{◌∙◌, ap, refl}
use Rattle.law_register.specs.Answer.Replay.{replay_on}
use Rattle.law_register.proofs.answer.answering.answer_dated.Goals as goal

pub answer_text-requires : goal.answer_text-requires
answer_text-requires g c = record {
  known = c.args.known.now;
  of_act = refl;
  is = c.on.ensures ∙ c.requires c.asked_day-day.result ∙ ap (replay_on c.args.known.now c.args.question.now.reading) c.asked_day-day.ensures;
}
