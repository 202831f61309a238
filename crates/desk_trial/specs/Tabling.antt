-- What is told of the text of a work on a day.
use Rattle.std.specs.Prelude.{ℕ, List, Option, Some, None, codes}
use Rattle.law_register.specs.declared.answer.question.Question.{Question}
use Rattle.law_register.specs.declared.answer.question.Reading.{Reading}
use Rattle.law_register.specs.declared.register.entry.Entry.{Entry}
use Rattle.law_register.specs.declared.register.known.Known.{Known}
use Rattle.law_register.specs.Answer.Answers.{answer_on}
use Rattle.law_register.specs.Provisions.Carrying.{held_now}
use Rattle.desk_trial.specs.Knowing.{answer_line}

-- the question for the text of a work on a day, at the viewpoint of what is known of it
abbrev pub question_on : List ℕ → Known → Reading → ℕ → Question
question_on work known reading day = record {
  work = work;
  language = known.act.language;
  version = Some day;
  portion = None;
  viewpoint = known.viewpoint;
  reading = reading;
}

-- the answer to that question, by what is known of the work
abbrev pub line_on : List ℕ → Known → Reading → ℕ → List ℕ
line_on work known reading day = answer_line (answer_on known (question_on work known reading day))

-- a work of which there is no table, since it is not known
abbrev pub none_line : List ℕ
none_line = codes "no table"

-- the answer, where the work is known
abbrev pub line_if : List ℕ → Option Known → Reading → ℕ → List ℕ
line_if work None reading day = none_line
line_if work (Some known) reading day = line_on work known reading day

-- the answer on a day at the front, by what entries make known of a work, with what it carries
abbrev pub told_on : List Entry → List ℕ → Reading → ℕ → List ℕ
told_on entries work reading day = line_if work (held_now entries work) reading day
