-- What a run of `batch` leaves follows of how its stream ended, or of why no register was opened.
use Rattle.std.proofs.Common.{◌≡◌, ◌≢◌, ◌⊎◌, ◌<◌, ◌≤◌, refl, sym, ap, subst, ◌∙◌, inl, inr, ℕ, zero, suc, ◌+◌, Bool, true, false, List, Option, Ok, arith, rules}
use Rattle.desk_base.specs.Streams.{Rose, risen}
use Rattle.law_http.proofs.Faultless.{determined}
use Rattle.law_http.specs.Faultless.{IsDetermined, IsFaultless, IsWhole}
use Rattle.law_http.specs.Streaming.{HasReadCause, HasWriteCause, RoseBy, faults_told}
use Rattle.law_http.specs.declared.streaming.Served.{Served}
use Rattle.law_http.specs.declared.streaming.StreamEnd.{StreamEnd}
use Rattle.law_http.specs.declared.streaming.StreamEnd.TheVariants as ends
use Rattle.law_keeper.specs.Keepers.{Holding, Keeps, LeavesOldOrSame}
use Rattle.law_office.specs.Crashing.{crashes_of}
use Rattle.law_office.specs.Offices.{OfficeState, desk_of, judging_in}
use Rattle.law_office.specs.Opening.{HasRefusalCause, Refuses, StaysUnlessFailed, TakesRefused, opened_of}
use Rattle.law_refs.specs.Handing.{judged_at_opening}
use Rattle.law_register.specs.Answer.Renewing.{opening_cost}
use Rattle.law_register.specs.Desk.States.{IsFoundOf}
use Rattle.law_register.specs.declared.desk.open_fault.OpenFault.{OpenFault}
use Rattle.law_register.specs.declared.register.entry.Entry.{Entry}
use Rattle.lawdesk.specs.Batching.{IsBatchStatus, IsServed, RanBatch, ServesOver, stream_status}
use Rattle.lawdesk.specs.Telling.{TellsUnopened}
use Rattle.lawdesk.proofs.Beginning.{since_began}
use Rattle.lawdesk.proofs.Stepping.{served_faults}
use Rattle.lawdesk.proofs.Tellings.{refusal_cause, refusal_stays, unopened_cause, unopened_stays, unopened_status}

-- the statuses of a stream
stream_status_is : (end : StreamEnd) (faulted : Bool) → IsBatchStatus (stream_status end faulted)
stream_status_is ends.End true = inr (inr (inr (inr (inl refl))))
stream_status_is ends.End false = inl refl
stream_status_is (ends.Refused refusal) true = inr (inr (inr (inr (inl refl))))
stream_status_is (ends.Refused refusal) false = inr (inl refl)
stream_status_is ends.ReadFault faulted = inr (inr (inl refl))
stream_status_is ends.WriteFault faulted = inr (inr (inr (inl refl)))
stream_status_is ends.Memory faulted = inr (inr (inr (inr (inr (inr refl)))))

read_cause : (end : StreamEnd) (faulted : Bool) (before now : ℕ) → HasReadCause end before now
    → stream_status end faulted ≡ 3 → now ≡ risen before
read_cause ends.End true before now cause three = absurd (omega (arith, three))
read_cause ends.End false before now cause three = absurd (omega (arith, three))
read_cause (ends.Refused refusal) true before now cause three = absurd (omega (arith, three))
read_cause (ends.Refused refusal) false before now cause three = absurd (omega (arith, three))
read_cause ends.ReadFault faulted before now cause three = cause
read_cause ends.WriteFault faulted before now cause three = absurd (omega (arith, three))
read_cause ends.Memory faulted before now cause three = absurd (omega (arith, three))

read_stays : (end : StreamEnd) (faulted : Bool) (before now : ℕ) → HasReadCause end before now
    → stream_status end faulted ≢ 3 → now ≡ before
read_stays ends.End faulted before now cause other = cause
read_stays (ends.Refused refusal) faulted before now cause other = cause
read_stays ends.ReadFault faulted before now cause other = absurd (other refl)
read_stays ends.WriteFault faulted before now cause other = cause
read_stays ends.Memory faulted before now cause other = cause

write_cause : (end : StreamEnd) (faulted : Bool) (before now : ℕ) → HasWriteCause end before now
    → stream_status end faulted ≡ 4 → now ≡ risen before
write_cause ends.End true before now cause four = absurd (omega (arith, four))
write_cause ends.End false before now cause four = absurd (omega (arith, four))
write_cause (ends.Refused refusal) true before now cause four = absurd (omega (arith, four))
write_cause (ends.Refused refusal) false before now cause four = absurd (omega (arith, four))
write_cause ends.ReadFault faulted before now cause four = absurd (omega (arith, four))
write_cause ends.WriteFault faulted before now cause four = cause
write_cause ends.Memory faulted before now cause four = absurd (omega (arith, four))

write_stays : (end : StreamEnd) (faulted : Bool) (before now : ℕ) → HasWriteCause end before now
    → stream_status end faulted ≢ 4 → now ≡ before
write_stays ends.End faulted before now cause other = cause
write_stays (ends.Refused refusal) faulted before now cause other = cause
write_stays ends.ReadFault faulted before now cause other = cause
write_stays ends.WriteFault faulted before now cause other = absurd (other refl)
write_stays ends.Memory faulted before now cause other = cause

-- a stream that was served ends with no damage
never_six : (end : StreamEnd) (faulted : Bool) → stream_status end faulted ≢ 6
never_six ends.End true six = omega (arith, six)
never_six ends.End false six = omega (arith, six)
never_six (ends.Refused refusal) true six = omega (arith, six)
never_six (ends.Refused refusal) false six = omega (arith, six)
never_six ends.ReadFault faulted six = omega (arith, six)
never_six ends.WriteFault faulted six = omega (arith, six)
never_six ends.Memory faulted six = omega (arith, six)

-- 5 says that some response told a fault of the keeper, 0 and 1 that none did
five_is_faulted : (end : StreamEnd) (faulted : Bool) → stream_status end faulted ≡ 5 → faulted ≡ true
five_is_faulted ends.End true five = refl
five_is_faulted ends.End false five = absurd (omega (arith, five))
five_is_faulted (ends.Refused refusal) true five = refl
five_is_faulted (ends.Refused refusal) false five = absurd (omega (arith, five))
five_is_faulted ends.ReadFault faulted five = absurd (omega (arith, five))
five_is_faulted ends.WriteFault faulted five = absurd (omega (arith, five))
five_is_faulted ends.Memory faulted five = absurd (omega (arith, five))

low_is_not : (end : StreamEnd) (faulted : Bool) (status : ℕ) → status ≡ stream_status end faulted
    → (status ≡ 0) ⊎ (status ≡ 1) → faulted ≡ true → ⊥
low_is_not ends.End true status is (inl low) told = omega arith
low_is_not ends.End true status is (inr low) told = omega arith
low_is_not ends.End false status is low told = absurd (cc told)
low_is_not (ends.Refused refusal) true status is (inl low) told = omega arith
low_is_not (ends.Refused refusal) true status is (inr low) told = omega arith
low_is_not (ends.Refused refusal) false status is low told = absurd (cc told)
low_is_not ends.ReadFault faulted status is (inl low) told = omega arith
low_is_not ends.ReadFault faulted status is (inr low) told = omega arith
low_is_not ends.WriteFault faulted status is (inl low) told = omega arith
low_is_not ends.WriteFault faulted status is (inr low) told = omega arith
low_is_not ends.Memory faulted status is (inl low) told = omega arith
low_is_not ends.Memory faulted status is (inr low) told = omega arith

low_is_whole : (end : StreamEnd) (faulted : Bool) (status : ℕ) → status ≡ stream_status end faulted
    → (status ≡ 0) ⊎ (status ≡ 1) → IsWhole end
low_is_whole ends.End faulted status is low = tt
low_is_whole (ends.Refused refusal) faulted status is low = tt
low_is_whole ends.ReadFault faulted status is (inl low) = omega arith
low_is_whole ends.ReadFault faulted status is (inr low) = omega arith
low_is_whole ends.WriteFault faulted status is (inl low) = omega arith
low_is_whole ends.WriteFault faulted status is (inr low) = omega arith
low_is_whole ends.Memory faulted status is (inl low) = omega arith
low_is_whole ends.Memory faulted status is (inr low) = omega arith

low_is_untold : (faulted : Bool) → (faulted ≡ true → ⊥) → faulted ≡ false
low_is_untold true not = absurd (not refl)
low_is_untold false not = refl

low_is_faultless : (served : Served) (status : ℕ) → status ≡ stream_status served.end served.faulted
    → (status ≡ 0) ⊎ (status ≡ 1) → IsFaultless served
low_is_faultless served status is low = record {
  whole = low_is_whole served.end served.faulted status is low;
  none_told = low_is_untold served.faulted (low_is_not served.end served.faulted status is low);
}

none_told : (n : ℕ) → (n ≢ 0 → ⊥) → n ≡ 0
none_told zero not = refl
none_told (suc n) not = absurd (not (λ (e : suc n ≡ 0). omega (arith, e)))

rose_by : (n before now : ℕ) → n ≢ 0 → RoseBy n before now → Rose before now
rose_by zero before now some rose = absurd (some refl)
rose_by (suc n) before now some rose = omega (arith, rose)

-- the statuses of a register that was not opened
any_status : (status : ℕ) → (status ≡ 4) ⊎ ((status ≡ 5) ⊎ ((status ≡ 6) ⊎ (status ≡ 7))) → IsBatchStatus status
any_status status (inl four) = inr (inr (inr (inl four)))
any_status status (inr (inl five)) = inr (inr (inr (inr (inl five))))
any_status status (inr (inr (inl six))) = inr (inr (inr (inr (inr (inl six)))))
any_status status (inr (inr (inr seven))) = inr (inr (inr (inr (inr (inr seven)))))

high : (status n : ℕ) → (status ≡ 4) ⊎ ((status ≡ 5) ⊎ ((status ≡ 6) ⊎ (status ≡ 7))) → status ≡ n → n < 4 → ⊥
high status n (inl four) is low = omega arith
high status n (inr (inl five)) is low = omega arith
high status n (inr (inr (inl six))) is low = omega arith
high status n (inr (inr (inr seven))) is low = omega arith

module _ {S W K C : Type 0} (left : S → Option (List ℕ)) (read_faults : S → ℕ)
    (written : W → Option (List ℕ)) (write_faults : W → ℕ)
    (holding : K → Holding) (keeper_faults : K → ℕ) (days : C → Option (ℕ → ℕ))
    (source source_new : S) (sink sink_new : W) (keeper keeper_new : K) (clock clock_new : C) (steps later : ℕ) where
  -- no register was opened
  pub ran_unopened : (status : ℕ) (fault : OpenFault)
      → ((holding keeper).tells → Refuses fault (opened_of (holding keeper).list))
      → HasRefusalCause (keeper_faults keeper) (keeper_faults keeper_new) fault
      → ((holding keeper).tells → StaysUnlessFailed (keeper_faults keeper) (keeper_faults keeper_new) fault)
      → Keeps (holding keeper) (holding keeper_new)
      → LeavesOldOrSame (holding keeper) (holding keeper_new)
      → TellsUnopened written write_faults sink sink_new status fault
      → source_new ≡ source → clock_new ≡ clock → TakesRefused (holding keeper) steps later fault
      → RanBatch left read_faults written write_faults holding keeper_faults days
      source source_new sink sink_new keeper keeper_new clock clock_new steps later status
  ran_unopened status fault opened cause uncounted same crash told same_source same_clock cost =
      let among : (status ≡ 4) ⊎ ((status ≡ 5) ⊎ ((status ≡ 6) ⊎ (status ≡ 7))) =
      unopened_status written write_faults sink sink_new status fault told in
      record {
        status_is = any_status status among;
        went = inl (record {
          fault = fault;
          opened = opened;
          cause = cause;
          stays = uncounted;
          told = told;
          same = same;
          crash = crash;
          same_source = same_source;
          same_clock = same_clock;
          cost = cost;
        });
        source_cause = λ three. absurd (high status 3 among three (omega arith));
        sink_cause = unopened_cause written write_faults sink sink_new status fault told;
        keeper_cause = refusal_cause written write_faults sink sink_new status fault (keeper_faults keeper) (keeper_faults keeper_new) told cause;
        source_stays = λ other. ap read_faults same_source;
        sink_stays = unopened_stays written write_faults sink sink_new status fault told;
        keeper_stays = λ low. absurd (elim low [
          | inl is ↦ high status 0 among is (omega arith)
          | inr is ↦ high status 1 among is (omega arith)
        ]);
        damage_is_no_fault = λ six tells.
            refusal_stays written write_faults sink sink_new status fault (keeper_faults keeper) (keeper_faults keeper_new) told (uncounted tells) six;
      }

  -- a stream was served
  pub ran_served : (status : ℕ) (opened : K) (entries : List Entry) (begun : ℕ) (served : Served)
      → ((holding keeper).tells → opened_of (holding keeper).list ≡ Ok entries)
      → Keeps (holding keeper) (holding opened)
      → LeavesOldOrSame (holding keeper) (holding opened)
      → keeper_faults opened ≡ keeper_faults keeper
      → begun ≤ steps + (opening_cost entries + judged_at_opening entries)
      → ServesOver left written holding keeper_faults days source source_new sink sink_new opened keeper_new clock clock_new begun later entries
      served
      → HasReadCause served.end (read_faults source) (read_faults source_new)
      → HasWriteCause served.end (write_faults sink) (write_faults sink_new)
      → status ≡ stream_status served.end served.faulted
      → RanBatch left read_faults written write_faults holding keeper_faults days
      source source_new sink sink_new keeper keeper_new clock clock_new steps later status
  ran_served status opened entries begun served stand_for same crash faults making serves reads writes is =
      let began : keeper_faults (serves.office).keeper ≡ keeper_faults keeper =
      ap keeper_faults (serves.is_new).keeper_is ∙ faults in
      let ended : keeper_faults keeper_new ≡ keeper_faults (serves.closed).keeper = ap keeper_faults serves.kept in
      let at_low = λ (low : (status ≡ 0) ⊎ (status ≡ 1)).
      determined (desk_of keeper_faults days) (λ (o : OfficeState K C). crashes_of (holding o.keeper)) (λ (o : OfficeState K C). o.past) (λ (o : OfficeState K C). judging_in o)
      (left source) (left source_new) (written sink) (written sink_new) serves.office serves.closed begun later served serves.streamed
      (serves.is_new).none_pending (low_is_faultless served status is low) in
      record {
        status_is = subst IsBatchStatus (sym is) (stream_status_is served.end served.faulted);
        went = inr (record {
          opened = opened;
          entries = entries;
          stand_for = stand_for;
          same = same;
          crash = since_began left written holding keeper_faults days source source_new sink sink_new keeper opened keeper_new
              clock clock_new begun later entries served stand_for same crash serves;
          faults = faults;
          begun = begun;
          making = making;
          served = served;
          serves = serves;
          status_told = is;
          determined = λ low.
              subst (λ (es : List Entry). IsDetermined (left source) (written sink) (written sink_new) es (days clock) (serves.closed).entries)
              (serves.is_new).entries_are
              (subst (λ (c : C). IsDetermined (left source) (written sink) (written sink_new) (serves.office).entries (days c) (serves.closed).entries)
              (serves.is_new).clock_is (at_low low).0);
          kept = λ low told.
              subst (λ (p : Option Entry). IsFoundOf (serves.closed).entries p (opened_of (holding keeper_new).list))
              (at_low low).1 (serves.found told);
        });
        source_cause = λ three. read_cause served.end served.faulted _ _ reads (sym is ∙ three);
        sink_cause = λ four. write_cause served.end served.faulted _ _ writes (sym is ∙ four);
        keeper_cause = λ five.
            let some : faults_told (serves.streamed).exchanges ≢ 0 =
            (serves.streamed).faulted.0 (five_is_faulted served.end served.faulted (sym is ∙ five)) in
            let rose : Rose (keeper_faults (serves.office).keeper) (keeper_faults (serves.closed).keeper) =
            rose_by (faults_told (serves.streamed).exchanges) _ _ some (serves.streamed).faults in
            subst (λ (n : ℕ). Rose n (keeper_faults keeper_new)) began
            (subst (λ (n : ℕ). Rose (keeper_faults (serves.office).keeper) n) (sym ended) rose);
        source_stays = λ other. read_stays served.end served.faulted _ _ reads (λ (three : _ ≡ 3). other (is ∙ three));
        sink_stays = λ other. write_stays served.end served.faulted _ _ writes (λ (four : _ ≡ 4). other (is ∙ four));
        keeper_stays = λ low.
            let none : faults_told (serves.streamed).exchanges ≡ 0 =
            none_told _ (λ (some : faults_told (serves.streamed).exchanges ≢ 0).
            low_is_not served.end served.faulted status is low ((serves.streamed).faulted.1 some)) in
            ended
            ∙ served_faults (desk_of keeper_faults days) (λ (o : OfficeState K C). crashes_of (holding o.keeper)) (λ (o : OfficeState K C). o.past)
            (serves.streamed).exchanges serves.office serves.closed (serves.streamed).answered none
            ∙ began;
        damage_is_no_fault = λ six tells. absurd (never_six served.end served.faulted (sym is ∙ six));
      }
