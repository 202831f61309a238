-- What a run leaves that tells something of what is kept follows of what is reported of it.
use Rattle.std.proofs.Common.{◌≡◌, ◌≢◌, ◌⊎◌, ◌∙◌, inl, inr, ℕ, List, Option, Result, Ok, Err, arith, subst, sym}
use Rattle.std.specs.Prelude.{IfOk}
use Rattle.desk_base.specs.Streams.{risen}
use Rattle.dossier_text.specs.Reports.{Told}
use Rattle.dossier_text.specs.Views.{report_view}
use Rattle.dossier_text.specs.declared.report.Report.{Report}
use Rattle.law_journal.specs.Grammar.{Listing}
use Rattle.law_keeper.specs.Keepers.{Holding, Keeps, LeavesOldOrSame}
use Rattle.law_register.specs.declared.desk.open_fault.OpenFault.{OpenFault}
use Rattle.law_register.specs.declared.desk.open_fault.OpenFault.TheVariants as fails
use Rattle.lawdesk.specs.Checking.{IsCheckDone, IsFineCheck}
use Rattle.lawdesk.specs.Kept.{HasKeptCause, RanKept}
use Rattle.lawdesk.specs.Reporting.{IsFineReport, IsReportDone}
use Rattle.lawdesk.specs.Telling.{EndsWith, Tells, TellsReport}

-- the statuses of a device that failed, and of want of memory
abbrev pub Undone : ℕ → Type 0
Undone n = (n ≡ 4) ⊎ ((n ≡ 5) ⊎ (n ≡ 7))

pub check_done : (n : ℕ) → IsCheckDone n → n ≢ 5
check_done n (inl none) five = omega (arith, none, five)
check_done n (inr six) five = omega (arith, six, five)

pub check_fine : (n : ℕ) → IsFineCheck n → Undone n → ⊥
check_fine n none (inl four) = let zero_is : n ≡ 0 = none in omega (arith, zero_is, four)
check_fine n none (inr (inl five)) = let zero_is : n ≡ 0 = none in omega (arith, zero_is, five)
check_fine n none (inr (inr seven)) = let zero_is : n ≡ 0 = none in omega (arith, zero_is, seven)

pub report_done : (n : ℕ) → IsReportDone n → n ≢ 5
report_done n (inl none) five = omega (arith, none, five)
report_done n (inr (inl six)) five = omega (arith, six, five)
report_done n (inr (inr nine)) five = omega (arith, nine, five)

pub report_fine : (n : ℕ) → IsFineReport n → Undone n → ⊥
report_fine n (inl none) (inl four) = omega (arith, none, four)
report_fine n (inl none) (inr (inl five)) = omega (arith, none, five)
report_fine n (inl none) (inr (inr seven)) = omega (arith, none, seven)
report_fine n (inr nine) (inl four) = omega (arith, nine, four)
report_fine n (inr nine) (inr (inl five)) = omega (arith, nine, five)
report_fine n (inr nine) (inr (inr seven)) = omega (arith, nine, seven)

module _ (IsDone IsFine : ℕ → Type 0) (never_five : (n : ℕ) → IsDone n → n ≢ 5) (never_undone : (n : ℕ) → IsFine n → Undone n → ⊥)
    {K W : Type 0} (holding : K → Holding) (faults : K → ℕ) (written : W → Option (List ℕ)) (write_faults : W → ℕ)
    (Is : Listing → Told → Type 0) (keeper keeper_new : K) (sink sink_new : W)
    (same : Keeps (holding keeper) (holding keeper_new)) (crash : LeavesOldOrSame (holding keeper) (holding keeper_new)) where
  abbrev Ran : ℕ → Type 0
  Ran status = RanKept IsDone IsFine holding faults written write_faults Is keeper keeper_new sink sink_new status

  -- the keeper failed
  kept_failed : (status : ℕ) → EndsWith written write_faults sink sink_new status 5 → faults keeper_new ≡ risen (faults keeper) → Ran status
  kept_failed status ends rises = record {
    status_is = inr (inr (inl ends.status_is));
    told = inr (inl ends);
    keeper_cause = λ five. rises;
    keeper_stays = λ fine. absurd (never_undone status fine (inr (inl ends.status_is)));
    damage_is_no_fault = λ other told. absurd (other ends.status_is);
    same = same;
    crash = crash;
  }

  -- there was not enough memory
  pub kept_wanting : (status : ℕ) → EndsWith written write_faults sink sink_new status 7
      → ((holding keeper).tells → faults keeper_new ≡ faults keeper) → Ran status
  kept_wanting status ends stays = record {
    status_is = inr (inr (inr ends.status_is));
    told = inr (inr ends);
    keeper_cause = λ five. let seven : status ≡ 7 = ends.status_is in absurd (omega (arith, seven, five));
    keeper_stays = λ fine. absurd (never_undone status fine (inr (inr ends.status_is)));
    damage_is_no_fault = λ other told. stays told;
    same = same;
    crash = crash;
  }

  -- what is reported was told
  kept_told : (report : Report) (status : ℕ) → IsDone report.status → (IsFine report.status → faults keeper_new ≡ faults keeper)
      → ((holding keeper).tells → Is (holding keeper).list (report_view report))
      → ((holding keeper).tells → faults keeper_new ≡ faults keeper)
      → Tells written write_faults sink sink_new status (report_view report) → Ran status
  kept_told report status done fine_stays is stays (inl whole) = record {
    status_is = inl (subst IsDone (sym whole.status_is) done);
    told = inl (record { told = report_view report; done = done; is = is; tells = inl whole });
    keeper_cause = λ five. absurd (never_five report.status done (sym whole.status_is ∙ five));
    keeper_stays = λ fine. fine_stays (subst IsFine whole.status_is fine);
    damage_is_no_fault = λ other told. stays told;
    same = same;
    crash = crash;
  }
  kept_told report status done fine_stays is stays (inr (inl part)) = record {
    status_is = inr (inl part.status_is);
    told = inl (record { told = report_view report; done = done; is = is; tells = inr (inl part) });
    keeper_cause = λ five. let four : status ≡ 4 = part.status_is in absurd (omega (arith, four, five));
    keeper_stays = λ fine. absurd (never_undone status fine (inl part.status_is));
    damage_is_no_fault = λ other told. stays told;
    same = same;
    crash = crash;
  }
  kept_told report status done fine_stays is stays (inr (inr ends)) = kept_wanting status ends stays

  pub ran_kept : (report : Result Report OpenFault) (status : ℕ)
      → ((holding keeper).tells → IfOk report (λ r. Is (holding keeper).list (report_view r)))
      → HasKeptCause IsDone IsFine (faults keeper) (faults keeper_new) report
      → ((holding keeper).tells → report ≢ Err fails.Failed → faults keeper_new ≡ faults keeper)
      → TellsReport written write_faults sink sink_new status report → Ran status
  ran_kept (Ok report) status is cause stays tells =
      kept_told report status cause.0 cause.1 is (λ told. stays told (λ bad. cc bad)) tells
  ran_kept (Err fails.Failed) status is cause stays ends = kept_failed status ends cause
  ran_kept (Err (fails.Damaged broken)) status is cause stays tells = absurd cause
  ran_kept (Err fails.Memory) status is cause stays ends = kept_wanting status ends (λ told. stays told (λ bad. cc bad))
