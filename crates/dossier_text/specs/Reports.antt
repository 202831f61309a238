-- What the program tells of a dossier: a status, and the bytes that are written.
use Rattle.std.specs.Prelude.{ℕ, List, [], ◌∷◌, ◌++◌, Result, Ok, Err}
use Rattle.serde_json.specs.Data.{Data}
use Rattle.serde_json.specs.Written.{compact_text}
use Rattle.akn_json.specs.Printing.Answers.{answer_data}
use Rattle.akn_json.specs.Reading.Dossiers.{dossier_of}
use Rattle.akn_json.specs.Printing.Refusals.{form_fault_data, query_data, rule_data}
use Rattle.akn_json.specs.declared.dossier.Dossier.{Dossier}
use Rattle.akn_json.specs.declared.fault.FormFault.{FormFault}
use Rattle.law_register.specs.Answer.Asking.{answer_at}
use Rattle.law_register.specs.Register.LawList.{front}
use Rattle.law_register.specs.declared.law.act.Act.{Act}
use Rattle.law_register.specs.declared.answer.answer.Answer.{Answer}
use Rattle.law_register.specs.declared.register.entry.Entry.{Entry}
use Rattle.law_register.specs.declared.answer.question.Reading.{Reading}
use Rattle.law_register.specs.declared.answer.queries.QueryRule.{QueryRule}
use Rattle.law_register.specs.declared.register.rules.Rule.{Rule}
use Rattle.dossier_text.specs.Asking.{question_of}
use Rattle.dossier_text.specs.Entering.{entries_of}
use Rattle.dossier_text.specs.declared.text_job.TextJob.{TextJob}

-- a status, and the bytes that are written
pub record Told : Type 0 where
  pub status : ℕ
  pub bytes : List ℕ

-- a line of JSON with no space, and its line feed
abbrev pub line_of : Data → List ℕ
line_of d = compact_text d ++ 10 ∷ []

-- an answer is told, and a question that breaks a rule is refused with it
abbrev pub told_answer : Result Answer QueryRule → Told
told_answer (Ok answer) = record { status = 0; bytes = line_of (answer_data answer) }
told_answer (Err rule) = record { status = 9; bytes = line_of (query_data rule) }

-- the answer of these entries to the question for an act on a day, in a reading, as all of them make it known
unfoldable pub told_text : ℕ → Reading → Act → List Entry → Told
told_text day reading act entries = told_answer (answer_at entries (question_of act (front entries) day reading))

-- a command that is refused, with the rule that it breaks
abbrev pub told_rule : Rule → Told
told_rule rule = record { status = 9; bytes = line_of (rule_data rule) }

-- the answer of the entries that were made, or the rule for which there are none
abbrev pub told_by : ℕ → Reading → Act → Result (List Entry) Rule → Told
told_by day reading act (Ok entries) = told_text day reading act entries
told_by day reading act (Err rule) = told_rule rule

-- what the register that a dossier makes answers; the rules of its commands come before those of the question
abbrev pub told_on : ℕ → Reading → Dossier → Told
told_on day reading dossier = told_by day reading dossier.act (entries_of dossier)

-- bytes that are no dossier are refused with the fault that comes first
abbrev pub told_fault : FormFault → Told
told_fault fault = record { status = 10; bytes = line_of (form_fault_data fault) }

-- a dossier, or the fault that keeps the bytes from being one
abbrev pub told_of : ℕ → Reading → Result Dossier FormFault → Told
told_of day reading (Ok dossier) = told_on day reading dossier
told_of day reading (Err fault) = told_fault fault

-- what is told of the bytes that are read, where the text on a day is asked for
unfoldable pub told : TextJob → List ℕ → Told
told job input = told_of job.day job.reading (dossier_of input)
