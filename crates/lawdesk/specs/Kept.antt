-- What a run leaves that tells something of what is kept, which stays as it is: `check` and `report`.
use Rattle.std.specs.Prelude.{ℕ, ◌≡◌, ◌≢◌, ◌⊎◌, List, Option, Result, Ok, Err}
use Rattle.desk_base.specs.Streams.{risen}
use Rattle.dossier_text.specs.Reports.{Told}
use Rattle.dossier_text.specs.declared.report.Report.{Report}
use Rattle.law_journal.specs.Grammar.{Listing}
use Rattle.law_keeper.specs.Keepers.{Holding, Keeps, LeavesOldOrSame}
use Rattle.law_register.specs.declared.desk.open_fault.OpenFault.{OpenFault}
use Rattle.law_register.specs.declared.desk.open_fault.OpenFault.TheVariants as fails
use Rattle.lawdesk.specs.Telling.{EndsWith, Tells}

-- the statuses with which the run is done, and those of them with which no fault of the keeper was counted
module _ (IsDone IsFine : ℕ → Type 0) where
  -- the count of a keeper's faults after an opening, of which this is reported: it rose by one where the keeper failed, and is as it
  -- was for a register
  abbrev pub HasKeptCause : ℕ → ℕ → Result Report OpenFault → Type 0
  HasKeptCause before now (Ok report) = IsDone report.status × (IsFine report.status → now ≡ before)
  HasKeptCause before now (Err fails.Failed) = now ≡ risen before
  HasKeptCause before now (Err (fails.Damaged broken)) = ⊥
  HasKeptCause before now (Err fails.Memory) = Unit {0}

  -- a keeper and a sink before and after, which clauses see by these functions; what is told of a list; and the status of the run
  module _ {K W : Type 0} (holding : K → Holding) (faults : K → ℕ) (written : W → Option (List ℕ)) (write_faults : W → ℕ)
      (Is : Listing → Told → Type 0) (keeper keeper_new : K) (sink sink_new : W) (status : ℕ) where
    -- something is told, which is what is told of the keeper's list, where it tells it
    pub record TellsKept : Type 0 where
      pub told : Told
      pub done : IsDone told.status
      pub is : (holding keeper).tells → Is (holding keeper).list told
      pub tells : Tells written write_faults sink sink_new status told

    pub record RanKept : Type 0 where
      pub status_is : IsDone status ⊎ ((status ≡ 4) ⊎ ((status ≡ 5) ⊎ (status ≡ 7)))
      -- that is told; or nothing is written, since the keeper failed or there was not enough memory
      pub told : TellsKept
          ⊎ (EndsWith written write_faults sink sink_new status 5 ⊎ EndsWith written write_faults sink sink_new status 7)
      -- the count of the keeper's faults rose by one at 5; where it tells its list, damage is no fault, so it rose at 5 alone
      pub keeper_cause : status ≡ 5 → faults keeper_new ≡ risen (faults keeper)
      pub keeper_stays : IsFine status → faults keeper_new ≡ faults keeper
      pub damage_is_no_fault : status ≢ 5 → (holding keeper).tells → faults keeper_new ≡ faults keeper
      -- the payloads stay, and where the keeper tells it, a crash at any moment since the run began leaves a list that it could
      -- leave before, or the list itself
      pub same : Keeps (holding keeper) (holding keeper_new)
      pub crash : LeavesOldOrSame (holding keeper) (holding keeper_new)
