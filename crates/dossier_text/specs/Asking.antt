-- What is asked of the register that a dossier makes.
use Rattle.std.specs.Prelude.{ℕ, None, Some}
use Rattle.law_register.specs.declared.law.act.Act.{Act}
use Rattle.law_register.specs.declared.answer.question.Question.{Question}
use Rattle.law_register.specs.declared.answer.question.Reading.{Reading}

-- the whole act on a day, in a reading, as it is known at a viewpoint
abbrev pub question_of : Act → ℕ → ℕ → Reading → Question
question_of act viewpoint day reading = record {
  work = act.work;
  language = act.language;
  version = Some day;
  portion = None;
  viewpoint = viewpoint;
  reading = reading;
}
