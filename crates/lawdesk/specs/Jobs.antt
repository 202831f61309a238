-- What the words of the command line ask for.
use Rattle.std.specs.Prelude.{ℕ, ◌==◌, List, [], ◌∷◌, Option, Some, None, option_map, if◌then◌else◌, codes}
use Rattle.std.specs.Str.{bytes_eq}
use Rattle.desk_base.specs.Decimals.{decimal_up_to}
use Rattle.dossier_text.specs.Jobs.{text_named}
use Rattle.law_register.specs.Answer.Questions.{reading_named}
use Rattle.law_register.specs.declared.answer.question.Reading.{Reading}
use Rattle.law_register.specs.declared.answer.question.Reading.TheVariants.{Force}
use Rattle.desk_serving.specs.declared.serve_job.ServeJob.{ServeJob}
use Rattle.lawdesk.specs.declared.job.Job.{Job}
use Rattle.lawdesk.specs.declared.job.Job.TheVariants.{Text, Check, Batch, Report, Generate, Export, Follow, Serve}
use Rattle.lawdesk.specs.ReportJobs.{report_job}

-- the job of the text on the day that a word names in a reading, if both were named
abbrev pub text_job : List ℕ → Option Reading → Option Job
text_job date reading = option_map (λ job. Text job) (text_named date reading)

-- a number that was read, if it is not 0
abbrev pub from_one : Option ℕ → Option ℕ
from_one None = None
from_one (Some n) = if n == 0 then None else Some n

-- the number from 1 up to this that a word names in decimal
abbrev pub counted : ℕ → List ℕ → Option ℕ
counted most word = from_one (decimal_up_to most word)

-- the job of generating a register of a seed and a count, if both were named
abbrev pub generate_with : Option ℕ → Option ℕ → Option Job
generate_with None count = None
generate_with (Some seed) None = None
generate_with (Some seed) (Some count) = Some (Generate (record { seed = seed; count = count }))

-- the same, where words name them: a seed of 64 bits, and a count from 1 to 2000, both in decimal
abbrev pub generate_job : List ℕ → List ℕ → Option Job
generate_job seed count = generate_with (decimal_up_to 18446744073709551615 seed) (counted 2000 count)

-- the job of exporting what stands above the number that a word names, of 64 bits
abbrev pub export_job : List ℕ → Option Job
export_job from = option_map (λ n. Export n) (decimal_up_to 18446744073709551615 from)

-- the connections to serve at a port, if both were named
abbrev pub serve_with : Option ℕ → Option ℕ → Option ServeJob
serve_with None connections = None
serve_with (Some port) None = None
serve_with (Some port) (Some connections) = Some (record { port = port; connections = connections })

-- the same, where words name them: a port from 1 to 65535, and connections from 1 to 1000000
abbrev pub serve_named : List ℕ → List ℕ → Option ServeJob
serve_named port connections = serve_with (counted 65535 port) (counted 1000000 connections)

abbrev pub serve_job : List ℕ → List ℕ → Option Job
serve_job port connections = option_map (λ job. Serve job) (serve_named port connections)

-- the job that one word asks for
abbrev pub word_job : List ℕ → Option Job
word_job word =
    if bytes_eq word (codes "check") then Some Check
    else (if bytes_eq word (codes "batch") then Some Batch
    else (if bytes_eq word (codes "follow") then Some Follow else None))

-- the job that two words ask for, and three
abbrev pub pair_job : List ℕ → List ℕ → Option Job
pair_job word other =
    if bytes_eq word (codes "text") then text_job other (Some Force)
    else (if bytes_eq word (codes "export") then export_job other else None)

abbrev pub triple_job : List ℕ → List ℕ → List ℕ → Option Job
triple_job word first second =
    if bytes_eq word (codes "text") then text_job first (reading_named second)
    else (if bytes_eq word (codes "generate") then generate_job first second
    else (if bytes_eq word (codes "serve") then serve_job first second else None))

-- `check` asks whether what is kept is a register, `batch` that requests are served over it, `follow` that frames are taken into it,
-- `text DATE` for the text on that day in force, `text DATE READING` in that reading, `export FROM` for the frames of what is kept
-- above a number, `generate SEED COUNT` for a register of that seed, and `serve PORT CONNECTIONS` that connections are served
abbrev pub plain_job : List (List ℕ) → Option Job
plain_job (word ∷ []) = word_job word
plain_job (word ∷ other ∷ []) = pair_job word other
plain_job (word ∷ first ∷ second ∷ []) = triple_job word first second
plain_job words = None

-- `report` and the words of a table ask for that table; no other words are a job
abbrev pub job_of : List (List ℕ) → Option Job
job_of [] = None
job_of (word ∷ words) =
    if bytes_eq word (codes "report") then option_map (λ job. Report job) (report_job words) else plain_job (word ∷ words)

-- the connections to serve, if a job is that
abbrev pub serving_part : Job → Option ServeJob
serving_part (Serve job) = Some job
serving_part job = None

abbrev pub serving_of : Option Job → Option ServeJob
serving_of None = None
serving_of (Some job) = serving_part job
