-- What a run of `export` leaves follows of how it ended.
use Rattle.std.proofs.Common.{◌≡◌, ◌≢◌, ◌⊎◌, inl, inr, ℕ, List, Option, Result, Ok, Err, arith, refl, subst, sym}
use Rattle.desk_base.specs.Streams.{risen}
use Rattle.law_follow.specs.Exporting.{Exports, HasKeeperCause, HasSinkCause, LeavesSink, Writes}
use Rattle.law_follow.specs.Opening.{HasFirstCause, Refuses, opened_of}
use Rattle.law_follow.specs.declared.exporting.ExportFault.{ExportFault}
use Rattle.law_follow.specs.declared.exporting.ExportFault.TheVariants as stops
use Rattle.law_follow.specs.declared.put_fault.PutFault.TheVariants as puts
use Rattle.law_keeper.specs.Keepers.{Holding, Keeps, LeavesOldOrSame}
use Rattle.law_register.specs.declared.desk.open_fault.OpenFault.{OpenFault}
use Rattle.lawdesk.specs.Exporting.{IsExportStatus, RanExport}
use Rattle.lawdesk.specs.Telling.{TellsUnopened}
use Rattle.lawdesk.proofs.SameOpening.{refuses_same}
use Rattle.lawdesk.proofs.Tellings.{opening_cause, opening_stays, unopened_cause, unopened_stays, unopened_status}

-- a register that was not opened has no 0
is_export : (status : ℕ) → (status ≡ 4) ⊎ ((status ≡ 5) ⊎ ((status ≡ 6) ⊎ (status ≡ 7))) → IsExportStatus status
is_export status known = inr known

no_zero : (status : ℕ) → (status ≡ 4) ⊎ ((status ≡ 5) ⊎ ((status ≡ 6) ⊎ (status ≡ 7))) → status ≢ 0
no_zero status (inl four) none = omega (arith, four, none)
no_zero status (inr (inl five)) none = omega (arith, five, none)
no_zero status (inr (inr (inl six))) none = omega (arith, six, none)
no_zero status (inr (inr (inr seven))) none = omega (arith, seven, none)

module _ {K W : Type 0} (holding : K → Holding) (faults : K → ℕ) (written : W → Option (List ℕ)) (write_faults : W → ℕ)
    (keeper keeper_new : K) (sink sink_new : W) (from : ℕ)
    (same : Keeps (holding keeper) (holding keeper_new)) (crash : LeavesOldOrSame (holding keeper) (holding keeper_new)) where
  -- the sink that was lent to the export is the one at the end, or what is damaged was told to it
  pub export_unopened : (fault : OpenFault) (status : ℕ)
      → ((holding keeper).tells → Refuses fault (opened_of (holding keeper).list))
      → HasFirstCause (holding keeper) (faults keeper) (faults keeper_new) fault
      → TellsUnopened written write_faults sink sink_new status fault
      → RanExport holding faults written write_faults keeper keeper_new sink sink_new from status
  export_unopened fault status refused cause tells =
      let known = unopened_status written write_faults sink sink_new status fault tells in
      record {
        status_is = is_export status known;
        went = inl (record {
          fault = fault;
          refused = λ told. refuses_same fault (holding keeper).list (refused told);
          told = tells;
        });
        sink_cause = unopened_cause written write_faults sink sink_new status fault tells;
        sink_stays = unopened_stays written write_faults sink sink_new status fault tells;
        keeper_cause = opening_cause written write_faults sink sink_new status (holding keeper) (faults keeper) (faults keeper_new) fault cause tells;
        keeper_stays = λ none. absurd (no_zero status known none);
        damage_is_no_fault = opening_stays written write_faults sink sink_new status (holding keeper) (faults keeper) (faults keeper_new) fault cause tells;
        same = same;
        crash = crash;
      }

  pub exported : (done : Unit {0}) → Writes from (holding keeper) (written sink) (written sink_new) (Ok done)
      → write_faults sink_new ≡ write_faults sink → faults keeper_new ≡ faults keeper
      → RanExport holding faults written write_faults keeper keeper_new sink sink_new from 0
  exported done writes sink_stays keeper_stays = record {
    status_is = inl refl;
    went = inr (record { put = Ok done; writes = writes; status_told = refl });
    sink_cause = λ four. absurd (omega (arith, four));
    sink_stays = λ other. sink_stays;
    keeper_cause = λ five. absurd (omega (arith, five));
    keeper_stays = λ none. keeper_stays;
    damage_is_no_fault = λ other told. keeper_stays;
    same = same;
    crash = crash;
  }

  pub export_cut : Writes from (holding keeper) (written sink) (written sink_new) (Err puts.WriteFault)
      → write_faults sink_new ≡ risen (write_faults sink) → faults keeper_new ≡ faults keeper
      → RanExport holding faults written write_faults keeper keeper_new sink sink_new from 4
  export_cut writes rises keeper_stays = record {
    status_is = inr (inl refl);
    went = inr (record { put = Err puts.WriteFault; writes = writes; status_told = refl });
    sink_cause = λ four. rises;
    sink_stays = λ other. absurd (other refl);
    keeper_cause = λ five. absurd (omega (arith, five));
    keeper_stays = λ none. keeper_stays;
    damage_is_no_fault = λ other told. keeper_stays;
    same = same;
    crash = crash;
  }

  pub export_wanting : Writes from (holding keeper) (written sink) (written sink_new) (Err puts.Memory)
      → write_faults sink_new ≡ write_faults sink → faults keeper_new ≡ faults keeper
      → RanExport holding faults written write_faults keeper keeper_new sink sink_new from 7
  export_wanting writes sink_stays keeper_stays = record {
    status_is = inr (inr (inr (inr refl)));
    went = inr (record { put = Err puts.Memory; writes = writes; status_told = refl });
    sink_cause = λ four. absurd (omega (arith, four));
    sink_stays = λ other. sink_stays;
    keeper_cause = λ five. absurd (omega (arith, five));
    keeper_stays = λ none. keeper_stays;
    damage_is_no_fault = λ other told. keeper_stays;
    same = same;
    crash = crash;
  }

  -- what an export that ended so is to leave with a status
  abbrev Ends : ExportFault → ℕ → Type 0
  Ends fault status = Exports from (holding keeper) (written sink) (written sink_new) (Err fault)
      → HasSinkCause (write_faults sink) (write_faults sink_new) (Err fault)
      → HasKeeperCause (holding keeper) (faults keeper) (faults keeper_new) (Err fault)
      → RanExport holding faults written write_faults keeper keeper_new sink sink_new from status

  pub ends_cut : (fault : ExportFault) → fault ≡ stops.WriteFault → Ends fault 4
  ends_cut fault is = subst (λ f. Ends f 4) (sym is) (λ writes rises stays. export_cut writes rises stays)

  pub ends_wanting : (fault : ExportFault) → fault ≡ stops.Memory → Ends fault 7
  ends_wanting fault is = subst (λ f. Ends f 7) (sym is) (λ writes sink_stays stays. export_wanting writes sink_stays stays)

module _ {K W : Type 0} (holding : K → Holding) (faults : K → ℕ) (written : W → Option (List ℕ)) (write_faults : W → ℕ)
    (keeper keeper_new : K) (from : ℕ)
    (same : Keeps (holding keeper) (holding keeper_new)) (crash : LeavesOldOrSame (holding keeper) (holding keeper_new)) where
  -- the sink that was lent to an export of a register that was not opened is as it was, and what is damaged is told to it
  abbrev Unopened : (sink lent sink_new : W) → ExportFault → OpenFault → ℕ → Type 0
  Unopened sink lent sink_new fault why status = Exports from (holding keeper) (written sink) (written lent) (Err fault)
      → LeavesSink sink lent (Err fault)
      → HasKeeperCause (holding keeper) (faults keeper) (faults keeper_new) (Err fault)
      → TellsUnopened written write_faults lent sink_new status why
      → RanExport holding faults written write_faults keeper keeper_new sink sink_new from status

  pub ends_unopened : (sink lent sink_new : W) (fault : ExportFault) (why : OpenFault) (status : ℕ) → fault ≡ stops.Open why
      → Unopened sink lent sink_new fault why status
  ends_unopened sink lent sink_new fault why status is =
      subst (λ f. Unopened sink lent sink_new f why status) (sym is)
      (λ refused unwritten cause told.
      export_unopened holding faults written write_faults keeper keeper_new sink sink_new from same crash why status refused cause
      (subst (λ s. TellsUnopened written write_faults s sink_new status why) unwritten told))
