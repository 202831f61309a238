-- What a run leaves that asked nothing of any device, since there was not enough memory to take its words.
use Rattle.std.proofs.Common.{inl, inr, ℕ, List, Option, refl, arith}
use Rattle.law_keeper.specs.Keepers.{Holding, IsHolding, IsOldOrSame, LeavesOldOrSame}
use Rattle.law_keeper.proofs.Moments.{rests, weaker}
use Rattle.law_register.specs.declared.desk.open_fault.OpenFault.TheVariants as fails
use Rattle.lawdesk.specs.Batching.{RanBatch}
use Rattle.lawdesk.specs.Checking.{IsCheckDone, IsChecked, IsFineCheck, RanCheck}
use Rattle.lawdesk.specs.Generating.{RanGenerate}
use Rattle.dossier_text.specs.Runs.{IsDone, RanText}
use Rattle.lawdesk.specs.Reporting.{IsFineReport, IsReportDone, IsReported, RanReport}
use Rattle.lawdesk.specs.declared.job.GenerateJob.{GenerateJob}
use Rattle.dossier_text.specs.declared.text_job.TextJob.{TextJob}
use Rattle.lawdesk.specs.declared.report_job.ReportJob.{ReportJob}
use Rattle.lawdesk.proofs.Batches.{ran_unopened}
use Rattle.lawdesk.proofs.Kepts.{check_done, check_fine, kept_wanting, report_done, report_fine}
use Rattle.lawdesk.proofs.Staying.{keeps_same}

-- where nothing is asked of a keeper, a crash leaves what it could leave before
pub leaves_same : (h : Holding) → IsHolding h → LeavesOldOrSame h h
leaves_same h is = λ told. weaker h.may_leave (IsOldOrSame h) h h (λ list may. inl may) (rests h is told)

no_text : IsDone 7 → ⊥
no_text (inl is) = omega arith
no_text (inr (inl is)) = omega arith
no_text (inr (inr is)) = omega arith

module _ {S W : Type 0} (left : S → Option (List ℕ)) (room read_faults : S → ℕ)
    (written : W → Option (List ℕ)) (write_faults : W → ℕ) (source : S) (sink : W) where
  pub text_wanting : (job : TextJob) → RanText left room read_faults written write_faults job source source sink sink 7
  text_wanting job = record {
    status_is = inr (inr (inr refl));
    told_is = λ done. absurd (no_text done);
    source_cause = λ three. absurd (omega (arith, three));
    sink_cause = λ four. absurd (omega (arith, four));
    cut = λ four. absurd (omega (arith, four));
    unwritten = λ wanting. refl;
    source_stays = λ other. refl;
    sink_stays = λ other. refl;
    taken = omega arith;
  }

module _ {W : Type 0} (written : W → Option (List ℕ)) (write_faults : W → ℕ) (sink : W) where
  pub generate_wanting : (job : GenerateJob) → RanGenerate written write_faults job sink sink 7
  generate_wanting job = record {
    status_is = inr (inr refl);
    told = inr (inr (record { status_is = refl; same = refl }));
  }

module _ {K W : Type 0} (holding : K → Holding) (faults : K → ℕ)
    (written : W → Option (List ℕ)) (write_faults : W → ℕ) (keeper : K) (is : IsHolding (holding keeper)) (sink : W) where
  pub check_wanting : RanCheck holding faults written write_faults keeper keeper sink sink 7
  check_wanting =
      kept_wanting IsCheckDone IsFineCheck check_done check_fine holding faults written write_faults IsChecked keeper keeper sink sink
      (keeps_same (holding keeper)) (leaves_same (holding keeper) is) 7 (record { status_is = refl; same = refl }) (λ told. refl)

  pub report_wanting : (job : ReportJob) → RanReport holding faults written write_faults job keeper keeper sink sink 7
  report_wanting job =
      kept_wanting IsReportDone IsFineReport report_done report_fine holding faults written write_faults (IsReported job)
      keeper keeper sink sink (keeps_same (holding keeper)) (leaves_same (holding keeper) is) 7
      (record { status_is = refl; same = refl }) (λ told. refl)

module _ {S W K C : Type 0} (left : S → Option (List ℕ)) (read_faults : S → ℕ)
    (written : W → Option (List ℕ)) (write_faults : W → ℕ)
    (holding : K → Holding) (keeper_faults : K → ℕ) (days : C → Option (ℕ → ℕ))
    (source : S) (sink : W) (keeper : K) (is : IsHolding (holding keeper)) (clock : C) (steps : ℕ) where
  pub batch_wanting : RanBatch left read_faults written write_faults holding keeper_faults days
      source source sink sink keeper keeper clock clock steps steps 7
  batch_wanting =
      ran_unopened left read_faults written write_faults holding keeper_faults days
      source source sink sink keeper keeper clock clock steps steps 7 fails.Memory (λ told. tt) refl (λ told. refl)
      (keeps_same (holding keeper)) (leaves_same (holding keeper) is) (record { status_is = refl; same = refl }) refl refl
      (λ told. omega arith)
