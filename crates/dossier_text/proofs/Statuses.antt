-- What is told of an input comes with the status of a text that is told.
use Rattle.std.proofs.Common.{ℕ, List, Option, Result, Ok, Err, refl, subst, inl, inr}
use Rattle.akn_json.specs.Reading.Dossiers.{dossier_of}
use Rattle.akn_json.specs.declared.dossier.Dossier.{Dossier}
use Rattle.akn_json.specs.declared.fault.FormFault.{FormFault}
use Rattle.law_register.specs.Answer.Asking.{answer_at}
use Rattle.law_register.specs.Register.LawList.{front}
use Rattle.law_register.specs.declared.law.act.Act.{Act}
use Rattle.law_register.specs.declared.answer.answer.Answer.{Answer}
use Rattle.law_register.specs.declared.register.entry.Entry.{Entry}
use Rattle.law_register.specs.declared.answer.question.Reading.{Reading}
use Rattle.law_register.specs.declared.answer.queries.QueryRule.{QueryRule}
use Rattle.law_register.specs.declared.register.rules.Rule.{Rule}
use Rattle.dossier_text.specs.Asking.{question_of}
use Rattle.dossier_text.specs.Entering.{entries_of}
use Rattle.dossier_text.specs.Reports.{told, told_answer, told_by, told_of, told_text}
use Rattle.dossier_text.specs.Runs.{IsDone, IsTold}
use Rattle.dossier_text.specs.declared.text_job.TextJob.{TextJob}

told_answer-done : (answer : Result Answer QueryRule) → IsDone (told_answer answer).status
told_answer-done (Ok answer) = inl refl
told_answer-done (Err rule) = inr (inl refl)

told_text-done : (day : ℕ) (reading : Reading) (act : Act) (entries : List Entry) → IsDone (told_text day reading act entries).status
unfolding told_text
told_text-done day reading act entries = told_answer-done (answer_at entries (question_of act (front entries) day reading))

told_by-done : (day : ℕ) (reading : Reading) (act : Act) (made : Result (List Entry) Rule) → IsDone (told_by day reading act made).status
told_by-done day reading act (Ok entries) = told_text-done day reading act entries
told_by-done day reading act (Err rule) = inr (inl refl)

told_of-done : (day : ℕ) (reading : Reading) (read : Result Dossier FormFault) → IsDone (told_of day reading read).status
told_of-done day reading (Ok dossier) = told_by-done day reading dossier.act (entries_of dossier)
told_of-done day reading (Err fault) = inr (inr refl)

told-done : (job : TextJob) (input : List ℕ) → IsDone (told job input).status
unfolding told
told-done job input = told_of-done job.day job.reading (dossier_of input)

-- a status that was told is that of a text that is told
pub done : (job : TextJob) (left now written after : Option (List ℕ)) (status : ℕ) → IsTold job left now written after status → IsDone status
done job left now written after status h = subst IsDone h.status_told (told-done job h.input)
