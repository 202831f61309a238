-- What is told of a day.
use Rattle.std.specs.Prelude.{ℕ, List, ◌++◌, Option, Some, None, Result, Ok, Err, codes, length}
use Rattle.std.specs.Fmt.{decimal}
use Rattle.serde_json.specs.Written.{compact_text}
use Rattle.akn_json.specs.Printing.Answers.{answer_data}
use Rattle.akn_json.specs.Printing.Refusals.{query_data}
use Rattle.law_register.specs.declared.answer.answer.Answer.{Answer}
use Rattle.law_register.specs.declared.answer.queries.QueryRule.{QueryRule}
use Rattle.law_register.specs.declared.answer.question.Question.{Question}
use Rattle.law_register.specs.declared.answer.question.Reading.{Reading}
use Rattle.law_register.specs.declared.register.entry.Entry.{Entry}
use Rattle.law_register.specs.declared.register.known.Known.{Known}
use Rattle.law_register.specs.Answer.Answers.{answer_on}
use Rattle.law_register.specs.Register.KnownIds.{known_at}
use Rattle.law_register.specs.Register.LawList.{front}
use Rattle.version_cache.specs.Tables.{TableValue, rows_until}

-- an answer, or the rule that the question breaks
abbrev pub answer_line : Result Answer QueryRule → List ℕ
answer_line (Ok answer) = compact_text (answer_data answer)
answer_line (Err rule) = compact_text (query_data rule)

-- the question for the text of a work on a day, at the viewpoint of what is known of it
abbrev pub question_on : List ℕ → Known → Reading → ℕ → Question
question_on work known reading day = record {
  work = work;
  language = known.act.language;
  version = Some day;
  portion = None;
  viewpoint = known.viewpoint;
  reading = reading;
}

-- the answer to that question, by what is known of the work
abbrev pub line_on : List ℕ → Known → Reading → ℕ → List ℕ
line_on work known reading day = answer_line (answer_on known (question_on work known reading day))

-- the same, where the work is known
abbrev pub line_if : List ℕ → Option Known → Reading → ℕ → List ℕ
line_if work None reading day = codes "none"
line_if work (Some known) reading day = line_on work known reading day

-- the answer on a day by what entries make known of a work
abbrev pub told_on : List Entry → List ℕ → Reading → ℕ → List ℕ
told_on entries work reading day = line_if work (known_at entries work (front entries)) reading day

-- how many rows a table has by a day
abbrev pub rows_line : TableValue → ℕ → List ℕ
rows_line table day = codes "rows " ++ decimal (length (rows_until day table.rows))
