-- What a run of the program leaves, by what its words ask for.
use Rattle.std.specs.Prelude.{ℕ, ◌≡◌, ◌≢◌, List, Bool, true, false, Option, Some, None}
use Rattle.dossier_text.specs.Runs.{RanText}
use Rattle.law_keeper.specs.Keepers.{Holding}
use Rattle.lawdesk.specs.Batching.{RanBatch}
use Rattle.lawdesk.specs.Checking.{RanCheck}
use Rattle.lawdesk.specs.Exporting.{RanExport}
use Rattle.lawdesk.specs.Following.{RanFollow}
use Rattle.lawdesk.specs.Generating.{RanGenerate}
use Rattle.lawdesk.specs.Reporting.{RanReport}
use Rattle.lawdesk.specs.declared.job.Job.{Job}
use Rattle.lawdesk.specs.declared.job.Job.TheVariants.{Batch, Check, Export, Follow, Generate, Report, Serve, Text}

-- which jobs read the source, open the register that is kept, and ask the clock
abbrev pub reads : Job → Bool
reads (Text job) = true
reads Batch = true
reads Follow = true
reads job = false

abbrev pub opens : Job → Bool
opens (Text job) = false
opens (Generate job) = false
opens job = true

abbrev pub asks_days : Job → Bool
asks_days Batch = true
asks_days (Serve job) = true
asks_days job = false

-- a source, a sink, a keeper and a clock before and after, which clauses see by these functions, and so many steps
module _ {S W K C : Type 0} (left : S → Option (List ℕ)) (room read_faults : S → ℕ)
    (written : W → Option (List ℕ)) (write_faults : W → ℕ)
    (holding : K → Holding) (keeper_faults : K → ℕ) (days : C → Option (ℕ → ℕ))
    (source source_new : S) (sink sink_new : W) (keeper keeper_new : K) (clock clock_new : C) (steps later : ℕ) where
  -- nothing was asked of any device, and no step was counted
  pub record IsIdle : Type 0 where
    pub same_source : source_new ≡ source
    pub same_sink : sink_new ≡ sink
    pub same_keeper : keeper_new ≡ keeper
    pub same_clock : clock_new ≡ clock
    pub same_steps : later ≡ steps

  -- what a job leaves alone
  pub record LeavesAlone (job : Job) : Type 0 where
    pub same_source : reads job ≡ false → source_new ≡ source
    pub same_keeper : opens job ≡ false → keeper_new ≡ keeper
    pub same_clock : asks_days job ≡ false → clock_new ≡ clock

  -- what a job other than serving leaves of what it uses
  abbrev pub Leaves : Job → ℕ → Type 0
  Leaves (Text job) status = RanText left room read_faults written write_faults job source source_new sink sink_new status
  Leaves Check status = RanCheck holding keeper_faults written write_faults keeper keeper_new sink sink_new status
  Leaves Batch status = RanBatch left read_faults written write_faults holding keeper_faults days
      source source_new sink sink_new keeper keeper_new clock clock_new steps later status
  Leaves (Report job) status = RanReport holding keeper_faults written write_faults job keeper keeper_new sink sink_new status
  Leaves (Generate job) status = RanGenerate written write_faults job sink sink_new status
  Leaves (Export from) status = RanExport holding keeper_faults written write_faults keeper keeper_new sink sink_new from status
  Leaves Follow status = RanFollow left read_faults written write_faults holding keeper_faults
      source source_new sink sink_new keeper keeper_new status
  Leaves (Serve job) status = ⊥

  -- a job was done, or was not for the reason that the status tells
  pub record Did (job : Job) (status : ℕ) : Type 0 where
    pub some_form : status ≢ 2
    pub leaves : Leaves job status
    pub alone : LeavesAlone job

  -- a run whose words ask for this, or for nothing: then its status is 2, and it is idle
  abbrev pub Ran : Option Job → ℕ → Type 0
  Ran None status = (status ≡ 2) × IsIdle
  Ran (Some job) status = Did job status
