use Rattle.std.proofs.Common.{◌∙◌, ap, refl}
use Rattle.law_register.specs.Answer.Replay.{replay_on}
use Rattle.law_register.proofs.answer.answering.answer_replayed.Goals as goal

pub answer_text-told-requires : goal.answer_text-told-requires
answer_text-told-requires g c = record {
  known = c.args.known.now;
  of_act = refl;
  is = c.in_ok-version.ensures.version ∙ ap (replay_on c.args.known.now c.args.question.now.reading) c.asked_day-day.ensures;
}
