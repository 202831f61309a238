-- Which text the words behind `text` ask for.
use Rattle.std.specs.Prelude.{ℕ, List, [], ◌∷◌, Option, Some, None}
use Rattle.desk_base.specs.Days.{day_of}
use Rattle.law_register.specs.Answer.Questions.{reading_named}
use Rattle.law_register.specs.declared.answer.question.Reading.{Reading}
use Rattle.law_register.specs.declared.answer.question.Reading.TheVariants.{Force}
use Rattle.dossier_text.specs.declared.text_job.TextJob.{TextJob}

-- the text on a day in a reading, if both were named
abbrev pub text_on : Option ℕ → Option Reading → Option TextJob
text_on None reading = None
text_on (Some day) None = None
text_on (Some day) (Some reading) = Some (record { day = day; reading = reading })

-- the text on the day that a word names, if both were named
abbrev pub text_named : List ℕ → Option Reading → Option TextJob
text_named date reading = text_on (day_of date) reading

-- `DATE` asks for the text on that day in force, and `DATE READING` in that reading; no other words ask for one
abbrev pub text_job_of : List (List ℕ) → Option TextJob
text_job_of (date ∷ []) = text_named date (Some Force)
text_job_of (date ∷ name ∷ []) = text_named date (reading_named name)
text_job_of words = None
