-- What a run of `serve` leaves follows of how its gates were served, or of why no register was opened.
use Rattle.std.proofs.Common.{◌≡◌, ◌≢◌, ◌⊎◌, ◌<◌, ◌≤◌, refl, sym, ap, subst, ◌∙◌, inl, inr, ℕ, suc, ◌+◌, Bool, true, false, List, [], ◌∷◌, ◌++◌, length, map, Option, Ok, arith}
use Rattle.std.specs.Prelude.{◌↔◌, IsTrue, if◌then◌else◌}
use Rattle.std.proofs.lemmas.List.{length-map}
use mathlib.Core.List.{IsPrefix}
use Rattle.desk_base.specs.Streams.{Rose, risen}
use Rattle.desk_gates.specs.Tallies.{Tally}
use Rattle.law_http.proofs.Histories.{entries_begin, entries_from}
use Rattle.law_keeper.specs.Keepers.{Holding, Keeps, LeavesOldOrSame}
use Rattle.law_office.specs.Offices.{OfficeState, RoseWith, Spells, desk_of}
use Rattle.law_office.specs.Opening.{HasRefusalCause, Refuses, StaysUnlessFailed, opened_of}
use Rattle.law_register.specs.Desk.History.{entries_of, events_from, history_of, marks_of}
use Rattle.law_register.specs.Desk.States.{IsFoundOf}
use Rattle.law_register.specs.Register.LawList.{front}
use Rattle.law_register.specs.Register.Verdicts.{is_legal}
use Rattle.law_register.specs.declared.desk.event.Event.{Event}
use Rattle.law_register.specs.declared.desk.event.Event.TheVariants.{Entered}
use Rattle.law_register.specs.declared.desk.fault_mark.FaultMark.{FaultMark}
use Rattle.law_register.specs.declared.desk.open_fault.OpenFault.{OpenFault}
use Rattle.law_register.specs.declared.register.entry.Entry.{Entry}
use Rattle.desk_serving.specs.Gates.{AskInAll, SomeGateRose, WereGatesServed}
use Rattle.lawdesk.specs.Outliving.{BeginWith}
use Rattle.lawdesk.specs.Serving.{IsEnded, IsServeStatus, RanServe, ServesGates, served_status, told_front}
use Rattle.lawdesk.specs.Telling.{Tells, TellsUnopened}
use Rattle.lawdesk.proofs.Tellings.{four_cause, four_stays, one_of_three, refusal_cause, refusal_stays, unopened_cause, unopened_stays, unopened_status}

-- ---- histories of entries alone

plain : (n : ℕ) (entries : List Entry) → events_from n entries [] ≡ map (λ entry. Entered entry) entries
plain n [] = refl
plain n (entry ∷ entries) = ap (λ l. Entered entry ∷ l) (plain (suc n) entries)

entries_plain : (entries : List Entry) → entries_of (map (λ entry. Entered entry) entries) ≡ entries
entries_plain [] = refl
entries_plain (entry ∷ entries) = ap (λ l. entry ∷ l) (entries_plain entries)

marks_plain : (entries : List Entry) → marks_of (map (λ entry. Entered entry) entries) ≡ []
marks_plain [] = refl
marks_plain (entry ∷ entries) = marks_plain entries

-- ---- an office that was served

module _ {C : Type 0} (left written : C → Option (List ℕ)) (read_faults write_faults : C → ℕ)
    {G : Type 0} (tally : G → Tally) (faults : G → ℕ) where
  pub serves_gates : {K D : Type 0} (holding : K → Holding) (keeper_faults : K → ℕ) (days : D → Option (ℕ → ℕ)) (count : ℕ)
      (entries : List Entry) (keeper keeper_new : K) (clock clock_new : D) (gates gates_new : List G) (wanting broken faulted : Bool) (n : ℕ)
      (office closed : OfficeState K D) → office.entries ≡ entries → office.marks ≡ [] → n ≡ front closed.entries
      → WereGatesServed left written read_faults write_faults tally faults count (history_of (desk_of keeper_faults days office))
      (history_of (desk_of keeper_faults days closed)) wanting broken gates gates_new
      → keeper_new ≡ closed.keeper → clock_new ≡ closed.clock
      → ((holding keeper_new).tells → Spells closed.entries closed.pending (holding keeper_new).list)
      → ((holding keeper_new).tells → IsFoundOf closed.entries closed.pending (opened_of (holding keeper_new).list))
      → RoseWith closed.marks (keeper_faults keeper) (keeper_faults keeper_new)
      → IsTrue faulted ↔ (closed.marks ≢ [])
      → ServesGates left written read_faults write_faults tally faults holding keeper_faults days count entries keeper keeper_new
      clock clock_new gates gates_new wanting broken faulted n
  serves_gates holding keeper_faults days count entries keeper keeper_new clock clock_new gates gates_new wanting broken faulted n
      office closed entries_are no_marks front_is were kept ticked list found rose marked =
      let opened : history_of (desk_of keeper_faults days office) ≡ map (λ entry. Entered entry) entries =
      ap (events_from 0 office.entries) no_marks ∙ plain 0 office.entries ∙ ap (map (λ entry. Entered entry)) entries_are in
      let ended : entries_of (history_of (desk_of keeper_faults days closed)) ≡ closed.entries = entries_from 0 closed.entries closed.marks in
      let served = subst (λ (h : List Event). WereGatesServed left written read_faults write_faults tally faults count h
      (history_of (desk_of keeper_faults days closed)) wanting broken gates gates_new) opened were in
      let begins = entries_begin (map (λ entry. Entered entry) entries) (history_of (desk_of keeper_faults days closed)) served.begins in
      record {
        closed = closed;
        begin = (begins.0, sym ended ∙ sym begins.1 ∙ ap (λ l. l ++ begins.0) (entries_plain entries));
        legal = ap is_legal (sym ended) ∙ served.legal;
        front_is = front_is;
        served = served;
        grown = λ asked asks none.
            let whole : history_of (desk_of keeper_faults days closed) ≡ map (λ entry. Entered entry) closed.entries =
            ap (events_from 0 closed.entries) none ∙ plain 0 closed.entries in
            let few = (served.grown asked asks).unmarked (ap marks_of whole ∙ marks_plain closed.entries) in
            omega (arith, few, ap length whole ∙ length-map closed.entries (λ entry. Entered entry), length-map entries (λ entry. Entered entry));
        kept = kept;
        ticked = ticked;
        list = list;
        found = found;
        rose = rose;
        marked = marked;
      }

-- ---- statuses

any_status : (status : ℕ) → (status ≡ 4) ⊎ ((status ≡ 5) ⊎ ((status ≡ 6) ⊎ (status ≡ 7))) → IsServeStatus status
any_status status (inl four) = inr (inl four)
any_status status (inr (inl five)) = inr (inr (inl five))
any_status status (inr (inr (inl six))) = inr (inr (inr (inl six)))
any_status status (inr (inr (inr seven))) = inr (inr (inr (inr (inl seven))))

refused_not : (status n : ℕ) → (status ≡ 4) ⊎ ((status ≡ 5) ⊎ ((status ≡ 6) ⊎ (status ≡ 7))) → status ≡ n
    → n ≢ 4 → n ≢ 5 → n ≢ 6 → n ≢ 7 → ⊥
refused_not status n (inl four) is a b c d = a (sym is ∙ four)
refused_not status n (inr (inl five)) is a b c d = b (sym is ∙ five)
refused_not status n (inr (inr (inl six))) is a b c d = c (sym is ∙ six)
refused_not status n (inr (inr (inr seven))) is a b c d = d (sym is ∙ seven)

served_status_is : (broken faulted : Bool) → IsServeStatus (served_status broken faulted)
served_status_is true faulted = inr (inr (inr (inr (inr refl))))
served_status_is false true = inr (inr (inl refl))
served_status_is false false = inl refl

-- the status is that of what was served, or 4 or 7
abbrev Among : ℕ → Bool → Bool → Type 0
Among status broken faulted = (status ≡ served_status broken faulted) ⊎ ((status ≡ 4) ⊎ (status ≡ 7))

among : (status said : ℕ) (wanting broken faulted : Bool) → Among said broken faulted → status ≡ (if wanting then 7 else said)
    → Among status broken faulted
among status said true broken faulted known is = inr (inr is)
among status said false broken faulted (inl own) is = inl (is ∙ own)
among status said false broken faulted (inr (inl four)) is = inr (inl (is ∙ four))
among status said false broken faulted (inr (inr seven)) is = inr (inr (is ∙ seven))

among_is : (status : ℕ) (broken faulted : Bool) → Among status broken faulted → IsServeStatus status
among_is status broken faulted (inl own) = subst IsServeStatus (sym own) (served_status_is broken faulted)
among_is status broken faulted (inr (inl four)) = inr (inl four)
among_is status broken faulted (inr (inr seven)) = inr (inr (inr (inr (inl seven))))

five_is_faulted : (status : ℕ) (broken faulted : Bool) → Among status broken faulted → status ≡ 5 → faulted ≡ true
five_is_faulted status true true known five = refl
five_is_faulted status false true known five = refl
five_is_faulted status true false (inl own) five = absurd (omega (arith, own, five))
five_is_faulted status true false (inr (inl four)) five = absurd (omega (arith, four, five))
five_is_faulted status true false (inr (inr seven)) five = absurd (omega (arith, seven, five))
five_is_faulted status false false (inl own) five = absurd (omega (arith, own, five))
five_is_faulted status false false (inr (inl four)) five = absurd (omega (arith, four, five))
five_is_faulted status false false (inr (inr seven)) five = absurd (omega (arith, seven, five))

eight_is_broken : (status : ℕ) (broken faulted : Bool) → Among status broken faulted → status ≡ 8 → broken ≡ true
eight_is_broken status true faulted known eight = refl
eight_is_broken status false true (inl own) eight = absurd (omega (arith, own, eight))
eight_is_broken status false false (inl own) eight = absurd (omega (arith, own, eight))
eight_is_broken status false faulted (inr (inl four)) eight = absurd (omega (arith, four, eight))
eight_is_broken status false faulted (inr (inr seven)) eight = absurd (omega (arith, seven, eight))

none_is_faulted : (status : ℕ) (broken faulted : Bool) → Among status broken faulted → status ≡ 0 → faulted ≡ false
none_is_faulted status broken false known none = refl
none_is_faulted status true true (inl own) none = absurd (omega (arith, own, none))
none_is_faulted status false true (inl own) none = absurd (omega (arith, own, none))
none_is_faulted status broken true (inr (inl four)) none = absurd (omega (arith, four, none))
none_is_faulted status broken true (inr (inr seven)) none = absurd (omega (arith, seven, none))

never_six : (status : ℕ) (broken faulted : Bool) → Among status broken faulted → status ≢ 6
never_six status true faulted (inl own) six = omega (arith, own, six)
never_six status false true (inl own) six = omega (arith, own, six)
never_six status false false (inl own) six = omega (arith, own, six)
never_six status broken faulted (inr (inl four)) six = omega (arith, four, six)
never_six status broken faulted (inr (inr seven)) six = omega (arith, seven, six)

never_four : (broken faulted : Bool) → served_status broken faulted ≢ 4
never_four true faulted four = omega (arith, four)
never_four false true four = omega (arith, four)
never_four false false four = omega (arith, four)

some_rose : (marks : List FaultMark) (before now : ℕ) → marks ≢ [] → RoseWith marks before now → Rose before now
some_rose [] before now some rose = absurd (some refl)
some_rose (mark ∷ marks) before now some rose = omega (arith, rose)

no_marks_stay : (marks : List FaultMark) (before now : ℕ) → (marks ≢ [] → ⊥) → RoseWith marks before now → now ≡ before
no_marks_stay [] before now none rose = omega (arith, rose)
no_marks_stay (mark ∷ marks) before now none rose = absurd (none (λ is. cc is))

-- ---- the line at the end

same_anyway : (n : ℕ) (b : Bool) → n ≡ (if b then n else n)
same_anyway n true = refl
same_anyway n false = refl

module _ {W : Type 0} (written : W → Option (List ℕ)) (faults : W → ℕ) (n : ℕ) (wanting broken faulted : Bool) (sink : W) where
  -- there was no memory for it
  pub ended_unsaid : IsEnded written faults n wanting broken faulted sink sink 7
  ended_unsaid = record {
    said = 7;
    tells = inr (inr (record { status_is = refl; same = refl }));
    status_told = same_anyway 7 wanting;
  }

-- why the sink failed, and that it did not else
module _ {W : Type 0} (written : W → Option (List ℕ)) (faults : W → ℕ) (n : ℕ) (broken faulted : Bool) (sink sink_new : W)
    (status said : ℕ) (tells : Tells written faults sink sink_new said (told_front n broken faulted)) where
  end_cause : (wanting : Bool) → status ≡ (if wanting then 7 else said) → status ≡ 4 → faults sink_new ≡ risen (faults sink)
  end_cause true is four = absurd (omega (arith, is, four))
  end_cause false is four =
      four_cause written faults sink sink_new said (told_front n broken faulted) (never_four broken faulted) tells (sym is ∙ four)

  end_stays : (wanting : Bool) → status ≡ (if wanting then 7 else said) → status ≢ 4 → status ≢ 7 → faults sink_new ≡ faults sink
  end_stays true is four seven = absurd (seven is)
  end_stays false is four seven =
      four_stays written faults sink sink_new said (told_front n broken faulted) tells (λ e. four (is ∙ e))

untrue : (b : Bool) → b ≡ false → IsTrue b → ⊥
untrue true is told = cc is
untrue false is told = cc told

module _ {C : Type 0} (left written : C → Option (List ℕ)) (read_faults write_faults : C → ℕ)
    {G : Type 0} (tally : G → Tally) (faults : G → ℕ)
    {W K D : Type 0} (sink_written : W → Option (List ℕ)) (sink_faults : W → ℕ)
    (holding : K → Holding) (keeper_faults : K → ℕ) (days : D → Option (ℕ → ℕ))
    (sink sink_new : W) (keeper keeper_new : K) (clock clock_new : D) (gates gates_new : List G) (count : ℕ) where
  -- no register was opened
  pub ran_unopened : (status : ℕ) (fault : OpenFault)
      → ((holding keeper).tells → Refuses fault (opened_of (holding keeper).list))
      → HasRefusalCause (keeper_faults keeper) (keeper_faults keeper_new) fault
      → ((holding keeper).tells → StaysUnlessFailed (keeper_faults keeper) (keeper_faults keeper_new) fault)
      → Keeps (holding keeper) (holding keeper_new)
      → LeavesOldOrSame (holding keeper) (holding keeper_new)
      → TellsUnopened sink_written sink_faults sink sink_new status fault
      → clock_new ≡ clock → gates_new ≡ gates
      → RanServe left written read_faults write_faults tally faults sink_written sink_faults holding keeper_faults days
      sink sink_new keeper keeper_new clock clock_new gates gates_new count status
  ran_unopened status fault opened cause uncounted same crash told same_clock same_gates =
      let among : (status ≡ 4) ⊎ ((status ≡ 5) ⊎ ((status ≡ 6) ⊎ (status ≡ 7))) =
      unopened_status sink_written sink_faults sink sink_new status fault told in
      record {
        status_is = any_status status among;
        went = inl (record {
          fault = fault;
          opened = opened;
          cause = cause;
          stays = uncounted;
          told = told;
          same = same;
          crash = crash;
          same_clock = same_clock;
          same_gates = same_gates;
        });
        sink_cause = unopened_cause sink_written sink_faults sink sink_new status fault told;
        keeper_cause = refusal_cause sink_written sink_faults sink sink_new status fault (keeper_faults keeper) (keeper_faults keeper_new) told cause;
        gate_cause = λ eight. absurd (refused_not status 8 among eight (λ e. omega (arith, e)) (λ e. omega (arith, e)) (λ e. omega (arith, e)) (λ e. omega (arith, e)));
        sink_stays = λ other enough. unopened_stays sink_written sink_faults sink sink_new status fault told other;
        keeper_stays = λ none. absurd (refused_not status 0 among none (λ e. omega (arith, e)) (λ e. omega (arith, e)) (λ e. omega (arith, e)) (λ e. omega (arith, e)));
        damage_is_no_fault = λ six tells.
            refusal_stays sink_written sink_faults sink sink_new status fault (keeper_faults keeper) (keeper_faults keeper_new) told (uncounted tells) six;
      }

  -- gates were served
  pub ran_served : (status : ℕ) (opened : K) (entries : List Entry) (wanting broken faulted : Bool) (n : ℕ)
      → ((holding keeper).tells → opened_of (holding keeper).list ≡ Ok entries)
      → Keeps (holding keeper) (holding opened)
      → keeper_faults opened ≡ keeper_faults keeper
      → ServesGates left written read_faults write_faults tally faults holding keeper_faults days count entries opened keeper_new
      clock clock_new gates gates_new wanting broken faulted n
      → IsEnded sink_written sink_faults n wanting broken faulted sink sink_new status
      → RanServe left written read_faults write_faults tally faults sink_written sink_faults holding keeper_faults days
      sink sink_new keeper keeper_new clock clock_new gates gates_new count status
  ran_served status opened entries wanting broken faulted n stand_for same stay serves ended =
      let is = ended.status_told in
      let known : Among status broken faulted = among status ended.said wanting broken faulted
      (one_of_three sink_written sink_faults sink sink_new ended.said (told_front n broken faulted) ended.tells) is in
      record {
        status_is = among_is status broken faulted known;
        went = inr (record {
          opened = opened;
          entries = entries;
          stand_for = stand_for;
          same = same;
          faults_stay = stay;
          wanting = wanting;
          broken = broken;
          faulted = faulted;
          n = n;
          serves = serves;
          ended = ended;
        });
        sink_cause = end_cause sink_written sink_faults n broken faulted sink sink_new status ended.said ended.tells wanting is;
        keeper_cause = λ five.
            let told : IsTrue faulted = five_is_faulted status broken faulted known five in
            subst (λ m. Rose m (keeper_faults keeper_new)) stay
            (some_rose (serves.closed).marks (keeper_faults opened) (keeper_faults keeper_new) (serves.marked.0 told) serves.rose);
        gate_cause = λ eight. (serves.served).rose (eight_is_broken status broken faulted known eight);
        sink_stays = end_stays sink_written sink_faults n broken faulted sink sink_new status ended.said ended.tells wanting is;
        keeper_stays = λ none.
            no_marks_stay (serves.closed).marks (keeper_faults opened) (keeper_faults keeper_new)
            (λ some. untrue faulted (none_is_faulted status broken faulted known none) (serves.marked.1 some)) serves.rose
            ∙ stay;
        damage_is_no_fault = λ six tells. absurd (never_six status broken faulted known six);
      }
