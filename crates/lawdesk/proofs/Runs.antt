-- What a run leaves by what its words ask for, where there was not enough memory to take them.
use Rattle.std.proofs.Common.{◌≡◌, ◌≢◌, inl, inr, ℕ, List, Option, Some, None, refl, arith}
use Rattle.law_keeper.specs.Keepers.{Holding, IsHolding}
use Rattle.law_register.specs.declared.desk.open_fault.OpenFault.TheVariants as fails
use Rattle.desk_serving.specs.declared.serve_job.ServeJob.{ServeJob}
use Rattle.lawdesk.specs.Exporting.{RanExport}
use Rattle.lawdesk.specs.Following.{RanFollow}
use Rattle.lawdesk.specs.Jobs.{serving_of, serving_part}
use Rattle.lawdesk.specs.Running.{Did, Ran}
use Rattle.lawdesk.specs.declared.job.Job.{Job}
use Rattle.lawdesk.specs.declared.job.Job.TheVariants.{Batch, Check, Export, Follow, Generate, Report, Serve, Text}
use Rattle.lawdesk.proofs.Staying.{keeps_same}
use Rattle.lawdesk.proofs.Wanting.{batch_wanting, check_wanting, generate_wanting, leaves_same, report_wanting, text_wanting}

some_none : (job : ServeJob) → ◌≡◌ {A = Option ServeJob} (Some job) None → ⊥
some_none job same = absurd (cc)

two_is_not_seven : ◌≢◌ {A = ℕ} 7 2
two_is_not_seven same = omega (arith, same)

module _ {S W K C : Type 0} (left : S → Option (List ℕ)) (room read_faults : S → ℕ)
    (written : W → Option (List ℕ)) (write_faults : W → ℕ)
    (holding : K → Holding) (keeper_faults : K → ℕ) (days : C → Option (ℕ → ℕ)) where
  module _ (source : S) (sink : W) (keeper : K) (is : IsHolding (holding keeper)) (clock : C) (steps : ℕ) where
    export_wanting : (from : ℕ) → RanExport holding keeper_faults written write_faults keeper keeper sink sink from 7
    export_wanting from = record {
      status_is = inr (inr (inr (inr refl)));
      went = inl (record { fault = fails.Memory; refused = λ told. tt; told = record { status_is = refl; same = refl } });
      sink_cause = λ four. absurd (omega (arith, four));
      sink_stays = λ other. refl;
      keeper_cause = λ five. absurd (omega (arith, five));
      keeper_stays = λ none. refl;
      damage_is_no_fault = λ other told. refl;
      same = keeps_same (holding keeper);
      crash = leaves_same (holding keeper) is;
    }

    follow_wanting : RanFollow left read_faults written write_faults holding keeper_faults source source sink sink keeper keeper 7
    follow_wanting = record {
      status_is = inr (inr (inr (inr (inr (inl refl)))));
      went = inl (record {
        fault = fails.Memory;
        refused = λ told. tt;
        told = record { status_is = refl; same = refl };
        same_source = refl;
        same = keeps_same (holding keeper);
        crash = leaves_same (holding keeper) is;
      });
      source_cause = λ three. absurd (omega (arith, three));
      sink_cause = λ four. absurd (omega (arith, four));
      keeper_cause = λ five. absurd (omega (arith, five));
      source_stays = λ other. refl;
      sink_stays = λ other. refl;
      keeper_stays = λ none. refl;
      damage_is_no_fault = λ other told. refl;
    }

    abbrev DidSame : Job → Type 0
    DidSame job = Did left room read_faults written write_faults holding keeper_faults days source source sink sink keeper keeper
        clock clock steps steps job 7

    did_wanting : (job : Job) → serving_part job ≡ None → DidSame job
    did_wanting (Text job) alone = record {
      some_form = two_is_not_seven;
      leaves = text_wanting left room read_faults written write_faults source sink job;
      alone = record { same_source = λ none. refl; same_keeper = λ none. refl; same_clock = λ none. refl };
    }
    did_wanting Check alone = record {
      some_form = two_is_not_seven;
      leaves = check_wanting holding keeper_faults written write_faults keeper is sink;
      alone = record { same_source = λ none. refl; same_keeper = λ none. refl; same_clock = λ none. refl };
    }
    did_wanting Batch alone = record {
      some_form = two_is_not_seven;
      leaves = batch_wanting left read_faults written write_faults holding keeper_faults days source sink keeper is clock steps;
      alone = record { same_source = λ none. refl; same_keeper = λ none. refl; same_clock = λ none. refl };
    }
    did_wanting (Report job) alone = record {
      some_form = two_is_not_seven;
      leaves = report_wanting holding keeper_faults written write_faults keeper is sink job;
      alone = record { same_source = λ none. refl; same_keeper = λ none. refl; same_clock = λ none. refl };
    }
    did_wanting (Generate job) alone = record {
      some_form = two_is_not_seven;
      leaves = generate_wanting written write_faults sink job;
      alone = record { same_source = λ none. refl; same_keeper = λ none. refl; same_clock = λ none. refl };
    }
    did_wanting (Export from) alone = record {
      some_form = two_is_not_seven;
      leaves = export_wanting from;
      alone = record { same_source = λ none. refl; same_keeper = λ none. refl; same_clock = λ none. refl };
    }
    did_wanting Follow alone = record {
      some_form = two_is_not_seven;
      leaves = follow_wanting;
      alone = record { same_source = λ none. refl; same_keeper = λ none. refl; same_clock = λ none. refl };
    }
    did_wanting (Serve job) alone = absurd (some_none job alone)

    pub ran_wanting : (asked : Option Job) → asked ≢ None → serving_of asked ≡ None
        → Ran left room read_faults written write_faults holding keeper_faults days source source sink sink keeper keeper
        clock clock steps steps asked 7
    ran_wanting None some alone = absurd (some refl)
    ran_wanting (Some job) some alone = did_wanting job alone
