-- What a run of `generate` leaves.
use Rattle.std.specs.Prelude.{ℕ, ◌≡◌, ◌⊎◌, List, Option}
use Rattle.dossier_text.specs.Reports.{Told}
use Rattle.law_generator.specs.Courses.{generated, line_of}
use Rattle.lawdesk.specs.Telling.{Tells}
use Rattle.lawdesk.specs.declared.job.GenerateJob.{GenerateJob}

-- the statuses of `generate`: 0 it is told, 4 for a sink that failed, 7 for want of memory
abbrev pub IsGenerateStatus : ℕ → Type 0
IsGenerateStatus status = (status ≡ 0) ⊎ ((status ≡ 4) ⊎ (status ≡ 7))

-- the line that a seed and a count determine
abbrev pub told_generated : GenerateJob → Told
told_generated job = record { status = 0; bytes = line_of (generated job.seed job.count) }

-- what a run of `generate` leaves, of a sink that clauses see by these functions
pub record RanGenerate {W : Type 0} (written : W → Option (List ℕ)) (write_faults : W → ℕ)
    (job : GenerateJob) (sink sink_new : W) (status : ℕ) : Type 0 where
  pub status_is : IsGenerateStatus status
  pub told : Tells written write_faults sink sink_new status (told_generated job)
