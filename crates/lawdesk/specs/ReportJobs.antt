-- Which table the words behind `report` ask for.
use Rattle.std.specs.Prelude.{ℕ, List, [], ◌∷◌, Option, Some, None, option_map, Result, Ok, Err, if◌then◌else◌, codes}
use Rattle.std.specs.Option.{option_and_then}
use Rattle.std.specs.Str.{bytes_eq}
use Rattle.desk_base.specs.Days.{day_of}
use Rattle.frbr_names.specs.Works.{Work, work_of}
use Rattle.frbr_names.specs.declared.fault.NameFault.{NameFault}
use Rattle.lawdesk.specs.declared.report_job.ReportJob.{ReportJob}
use Rattle.lawdesk.specs.declared.report_job.ReportJob.TheVariants.{Lifecycle, Correspondence, Unapplied, Dangling}

-- the work of an IRI that was read, if it was
abbrev pub work_read : Result Work NameFault → Option (List ℕ)
work_read (Ok work) = Some work.text
work_read (Err fault) = None

-- the work that a word names
abbrev pub work_named : List ℕ → Option (List ℕ)
work_named word = work_read (work_of word)

-- the life of a work
abbrev pub lifecycle_job : List ℕ → Option ReportJob
lifecycle_job work = option_map (λ w. Lifecycle w) (work_named work)

-- the correspondence of a work on two days
abbrev pub correspondence_on : Option (List ℕ) → ℕ → ℕ → Option ReportJob
correspondence_on None first second = None
correspondence_on (Some work) first second = Some (Correspondence work first second)

abbrev pub correspondence_job : List ℕ → List ℕ → List ℕ → Option ReportJob
correspondence_job work first second =
    option_and_then (λ one. option_and_then (λ other. correspondence_on (work_named work) one other) (day_of second))
    (day_of first)

-- what could not be applied on a day
abbrev pub unapplied_job : List ℕ → Option ReportJob
unapplied_job day = option_map (λ d. Unapplied d) (day_of day)

-- which references dangle on a day
abbrev pub dangling_job : List ℕ → Option ReportJob
dangling_job day = option_map (λ d. Dangling d) (day_of day)

-- the table of two words
abbrev pub short_job : List ℕ → List ℕ → Option ReportJob
short_job name word =
    if bytes_eq name (codes "lifecycle") then lifecycle_job word
    else if bytes_eq name (codes "unapplied") then unapplied_job word
    else if bytes_eq name (codes "dangling") then dangling_job word else None

-- the table of four words
abbrev pub long_job : List ℕ → List ℕ → List ℕ → List ℕ → Option ReportJob
long_job name work first second =
    if bytes_eq name (codes "correspondence") then correspondence_job work first second else None

-- `lifecycle WORK`, `correspondence WORK DATE DATE`, `unapplied DATE` and `dangling DATE` ask for a table, and no other words
abbrev pub report_job : List (List ℕ) → Option ReportJob
report_job (name ∷ word ∷ []) = short_job name word
report_job (name ∷ work ∷ first ∷ second ∷ []) = long_job name work first second
report_job words = None
