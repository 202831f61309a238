-- What a run over two registers leaves: that of a move, or all that is promised of a run over one of them.
use Rattle.std.specs.Prelude.{ℕ, ◌≡◌, ◌⊎◌, ◌↔◌, List, Option, Some, None, unwrap_or}
use Rattle.desk_gates.specs.Tallies.{Tally}
use Rattle.law_keeper.specs.Keepers.{Holding}
use Rattle.desk_serving.specs.declared.serve_job.ServeJob.{ServeJob}
use Rattle.lawdesk.specs.Jobs.{job_of, serving_of}
use Rattle.lawdesk.specs.Moving.{IsMoveStatus, for_other}
use Rattle.lawdesk.specs.Running.{Ran}
use Rattle.lawdesk.specs.Serving.{RanServe}
use Rattle.lawdesk.specs.Statuses.{IsStatus}

-- the statuses of a run over one register, and those of a move
abbrev pub IsStatusOfTwo : ℕ → Type 0
IsStatusOfTwo status = IsStatus status ⊎ IsMoveStatus status

-- the words that a run over one register is of: those behind `sql`, or all
abbrev pub behind : List (List ℕ) → List (List ℕ)
behind words = unwrap_or (for_other words) words

-- a source, a sink, a keeper, a clock and gates before and after, which clauses see by these functions
module _ {S W K C G N : Type 0} (left : S → Option (List ℕ)) (room read_faults : S → ℕ)
    (written : W → Option (List ℕ)) (write_faults : W → ℕ)
    (holding : K → Holding) (keeper_faults : K → ℕ) (days : C → Option (ℕ → ℕ))
    (link_left link_written : N → Option (List ℕ)) (link_read_faults link_write_faults : N → ℕ) (tally : G → Tally) (gate_faults : G → ℕ)
    (source source_new : S) (sink sink_new : W) (keeper keeper_new : K) (clock clock_new : C) (gates gates_new : List G) where
  -- what a run of these words over one register leaves: all that is promised of such a run
  pub record RanOver (words : List (List ℕ)) (status : ℕ) : Type 0 where
    pub status_is : IsStatus status
    pub wrong_words : (status ≡ 2) ↔ (job_of words ≡ None)
    -- words other than those of `serve` leave the gates alone
    pub ran : serving_of (job_of words) ≡ None
        → (later : ℕ) × Ran left room read_faults written write_faults holding keeper_faults days
        source source_new sink sink_new keeper keeper_new clock clock_new 0 later (job_of words) status
    pub same_gates : serving_of (job_of words) ≡ None → gates_new ≡ gates
    -- connections that are served leave the source alone
    pub served : (job : ServeJob) → serving_of (job_of words) ≡ Some job
        → RanServe link_left link_written link_read_faults link_write_faults tally gate_faults
        written write_faults holding keeper_faults days sink sink_new keeper keeper_new clock clock_new gates gates_new
        job.connections status
    pub same_source : (job : ServeJob) → serving_of (job_of words) ≡ Some job → source_new ≡ source
