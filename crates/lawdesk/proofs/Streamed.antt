-- A stream that is served over an office that was just opened.
use Rattle.std.proofs.Common.{◌≡◌, refl, sym, ap, subst, ◌∙◌, ℕ, List, Option, None, Ok}
use Rattle.desk_base.specs.Crashes.{AreCrashes}
use Rattle.law_http.specs.Streaming.{Exchange, IsStreamed}
use Rattle.law_http.specs.declared.streaming.Served.{Served}
use Rattle.law_keeper.specs.Keepers.{Holding, IsHolding, IsSettled}
use Rattle.law_keeper.specs.declared.readiness.Readiness.{Readiness}
use Rattle.law_office.specs.Crashing.{IsFoundIn, crashes_are, crashes_of}
use Rattle.law_office.specs.Offices.{Holds, HoldsBook, IsRight, OfficeState, Spells, desk_of, judging_in, pending_of}
use Rattle.law_office.specs.Opening.{opened_of}
use Rattle.law_office.specs.declared.book.Book.{Book}
use Rattle.law_office.specs.declared.book.Pending.{Pending}
use Rattle.law_register.specs.Desk.States.{Found, IsFoundOf}
use Rattle.law_register.specs.declared.register.entry.Entry.{Entry}
use Rattle.lawdesk.specs.Batching.{IsNewOffice, ServesOver}
use Rattle.lawdesk.specs.Outliving.{BeginWith, SomeFaulted}
use Rattle.lawdesk.proofs.Stepping.{served_begins}
use Rattle.lawdesk.proofs.Outliving.{Stands, outlive_all, owed_none}

module _ {S W K C : Type 0} (left : S → Option (List ℕ)) (written : W → Option (List ℕ))
    (holding : K → Holding) (keeper_faults : K → ℕ) (days : C → Option (ℕ → ℕ)) (is : (keeper : K) → IsHolding (holding keeper))
    (book : Book) (keeper : K) (clock : C) (readiness : Readiness)
    (right : IsRight book) (held : HoldsBook (holding keeper) readiness book) (none : book.pending ≡ None)
    (office : OfficeState K C) (new : IsNewOffice keeper clock book.register.entries office) where
  are : (o : OfficeState K C) → AreCrashes (crashes_of (holding o.keeper))
  are o = crashes_are (holding o.keeper) (is o.keeper)

  held_none : Holds (holding keeper) readiness book.register.entries None book.end
  held_none =
      subst (λ (p : Option Pending). Holds (holding keeper) readiness book.register.entries (pending_of p) book.end) none held

  settled : IsSettled (holding keeper)
  settled = held_none.settled (held_none.ready refl)

  stands : (all : List Exchange) → (holding keeper).tells → (holding keeper).tells_crash
      → Stands all (desk_of keeper_faults days) (λ (o : OfficeState K C). crashes_of (holding o.keeper)) (λ (o : OfficeState K C). o.past) are office
  stands all told crash = record {
    tells = subst (λ (k : K). (holding k).tells × (holding k).tells_crash) (sym new.keeper_is) (told, crash);
    durable = λ found may.
        let left : IsFoundIn (holding keeper).may_leave found =
        subst (λ (k : K). IsFoundIn (holding k).may_leave found) new.keeper_is may in
        let found_is : found ≡ Ok office.entries =
        left.2
        ∙ ap opened_of (settled.durable crash left.0 left.1 ∙ held_none.list told)
        ∙ right.opens
        ∙ ap (λ (es : List Entry). Ok es) (sym new.entries_are) in
        subst (λ (p : Option Entry). IsFoundOf office.entries p found) (sym new.none_pending) found_is;
    owed = owed_none all office.entries office.pending new.none_pending;
  }

  pub serves_over : (source source_new : S) (sink sink_new : W) (keeper_new : K) (clock_new : C) (steps later : ℕ) (served : Served)
      (closed : OfficeState K C)
      → IsStreamed (desk_of keeper_faults days) (λ (o : OfficeState K C). crashes_of (holding o.keeper)) (λ (o : OfficeState K C). o.past)
      (λ (o : OfficeState K C). judging_in o)
      (left source) (left source_new) (written sink) (written sink_new) office closed steps later served
      → keeper_new ≡ closed.keeper → clock_new ≡ closed.clock
      → ((holding keeper_new).tells → Spells closed.entries closed.pending (holding keeper_new).list)
      → ((holding keeper_new).tells → IsFoundOf closed.entries closed.pending (opened_of (holding keeper_new).list))
      → ServesOver left written holding keeper_faults days source source_new sink sink_new keeper keeper_new clock clock_new steps later
      book.register.entries served
  serves_over source source_new sink sink_new keeper_new clock_new steps later served closed streamed kept ticked list found = record {
    office = office;
    closed = closed;
    is_new = new;
    streamed = streamed;
    begin = subst (λ (es : List Entry). BeginWith closed.entries es) new.entries_are
        (served_begins (desk_of keeper_faults days) (λ (o : OfficeState K C). crashes_of (holding o.keeper)) (λ (o : OfficeState K C). o.past)
        streamed.exchanges office closed streamed.answered);
    kept = kept;
    ticked = ticked;
    list = list;
    found = found;
    outlives = λ told crash.
        outlive_all streamed.exchanges (desk_of keeper_faults days)
        (λ (o : OfficeState K C). crashes_of (holding o.keeper)) (λ (o : OfficeState K C). o.past) are streamed.exchanges office closed streamed.answered
        (λ entry faulted. faulted) (stands streamed.exchanges told crash);
  }
