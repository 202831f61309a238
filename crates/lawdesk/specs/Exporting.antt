-- What a run of `export` leaves: the frames of what a keeper has above a number are written.
use Rattle.std.specs.Prelude.{ℕ, ◌≡◌, ◌≢◌, ◌⊎◌, List, Option, Result, Ok, Err}
use Rattle.desk_base.specs.Streams.{risen}
use Rattle.law_follow.specs.Exporting.{Writes}
use Rattle.law_follow.specs.declared.put_fault.PutFault.{PutFault}
use Rattle.law_follow.specs.declared.put_fault.PutFault.TheVariants as puts
use Rattle.law_keeper.specs.Keepers.{Holding, Keeps, LeavesOldOrSame}
use Rattle.law_office.specs.Opening.{Refuses, opened_of}
use Rattle.law_register.specs.declared.desk.open_fault.OpenFault.{OpenFault}
use Rattle.lawdesk.specs.Telling.{TellsUnopened}

-- the statuses of `export`: 0 the frames are written, 6 what is kept is damaged, 4 and 5 for a sink and a keeper that failed, 7 for
-- want of memory
abbrev pub IsExportStatus : ℕ → Type 0
IsExportStatus status = (status ≡ 0) ⊎ ((status ≡ 4) ⊎ ((status ≡ 5) ⊎ ((status ≡ 6) ⊎ (status ≡ 7))))

-- the status of frames that were written so
abbrev pub put_status : Result Unit PutFault → ℕ
put_status (Ok done) = 0
put_status (Err puts.WriteFault) = 4
put_status (Err puts.Memory) = 7

-- a keeper and a sink before and after, which clauses see by these functions
module _ {K W : Type 0} (holding : K → Holding) (faults : K → ℕ) (written : W → Option (List ℕ)) (write_faults : W → ℕ)
    (keeper keeper_new : K) (sink sink_new : W) where
  -- no register was opened, which is told
  pub record IsUnopened (status : ℕ) : Type 0 where
    pub fault : OpenFault
    pub refused : (holding keeper).tells → Refuses fault (opened_of (holding keeper).list)
    pub told : TellsUnopened written write_faults sink sink_new status fault

  -- the frames of the payloads above the number were written, all of them; or a front part of their bytes, where the sink failed;
  -- or the first of them, each whole, where there was not enough memory. They are those of the keeper's list, which is a register
  pub record IsExported (from status : ℕ) : Type 0 where
    pub put : Result Unit PutFault
    pub writes : Writes from (holding keeper) (written sink) (written sink_new) put
    pub status_told : status ≡ put_status put

  -- what a run of `export` leaves
  pub record RanExport (from status : ℕ) : Type 0 where
    pub status_is : IsExportStatus status
    pub went : IsUnopened status ⊎ IsExported from status
    -- each fault has its cause, and no count rose but that of the device which the status names; where the keeper tells its list,
    -- damage is no fault
    pub sink_cause : status ≡ 4 → write_faults sink_new ≡ risen (write_faults sink)
    pub sink_stays : status ≢ 4 → write_faults sink_new ≡ write_faults sink
    pub keeper_cause : status ≡ 5 → faults keeper_new ≡ risen (faults keeper)
    pub keeper_stays : status ≡ 0 → faults keeper_new ≡ faults keeper
    pub damage_is_no_fault : status ≢ 5 → (holding keeper).tells → faults keeper_new ≡ faults keeper
    -- the payloads stay, and where the keeper tells it, a crash at any moment since the run began leaves a list that it could leave
    -- before, or the list itself
    pub same : Keeps (holding keeper) (holding keeper_new)
    pub crash : LeavesOldOrSame (holding keeper) (holding keeper_new)
