-- What a run of `batch` leaves: the requests that a source has are served over the register that a keeper keeps.
use Rattle.std.specs.Prelude.{ℕ, ◌≡◌, ◌≢◌, ◌≤◌, ◌+◌, List, [], Option, None, Ok, ◌⊎◌, Bool, if◌then◌else◌}
use Rattle.desk_base.specs.Crashes.{LeavesOnly}
use Rattle.desk_base.specs.Streams.{Rose, risen}
use Rattle.law_http.specs.Faultless.{IsDetermined}
use Rattle.law_http.specs.Streaming.{IsStreamed}
use Rattle.law_http.specs.declared.streaming.Served.{Served}
use Rattle.law_http.specs.declared.streaming.StreamEnd.{StreamEnd}
use Rattle.law_http.specs.declared.streaming.StreamEnd.TheVariants as ends
use Rattle.law_keeper.specs.Keepers.{Holding, Keeps, LeavesOldOrSame}
use Rattle.law_office.specs.Crashing.{crashes_of}
use Rattle.law_office.specs.Offices.{OfficeState, Spells, desk_of, judging_in}
use Rattle.law_office.specs.Opening.{HasRefusalCause, Refuses, StaysUnlessFailed, TakesRefused, opened_of}
use Rattle.law_refs.specs.Handing.{judged_at_opening}
use Rattle.law_refs.specs.OfRegister.{IsIndexOf}
use Rattle.law_register.specs.Answer.Renewing.{opening_cost}
use Rattle.law_register.specs.Desk.States.{IsFoundOf}
use Rattle.law_register.specs.declared.desk.open_fault.OpenFault.{OpenFault}
use Rattle.law_register.specs.declared.register.entry.Entry.{Entry}
use Rattle.lawdesk.specs.Outliving.{BeginWith, IsOldOrKept, OutliveAll}
use Rattle.lawdesk.specs.Telling.{TellsUnopened}

-- the statuses of `batch`: 0 each request was answered, 1 what came behind the last was refused as no request, 3 and 4
-- a source and a sink that failed, 5 a keeper that failed when it was opened, or of which some response says that it
-- did, 6 what is kept is damaged, 7 for want of memory
abbrev pub IsBatchStatus : ℕ → Type 0
IsBatchStatus status = (status ≡ 0) ⊎ ((status ≡ 1) ⊎ ((status ≡ 3) ⊎ ((status ≡ 4) ⊎ ((status ≡ 5)
    ⊎ ((status ≡ 6) ⊎ (status ≡ 7))))))

-- the status of a stream that ended so: where some response says that the keeper failed, that comes before how the
-- stream was closed
abbrev pub stream_status : StreamEnd → Bool → ℕ
stream_status ends.End faulted = if faulted then 5 else 0
stream_status (ends.Refused refusal) faulted = if faulted then 5 else 1
stream_status ends.ReadFault faulted = 3
stream_status ends.WriteFault faulted = 4
stream_status ends.Memory faulted = 7

-- an office of these entries that is new: it has these devices, no entry is pending, there is no mark, it has no table of a past
-- viewpoint, and its index of references is that of these entries
pub record IsNewOffice {K C : Type 0} (keeper : K) (clock : C) (entries : List Entry) (office : OfficeState K C)
    : Type 0 where
  pub keeper_is : office.keeper ≡ keeper
  pub clock_is : office.clock ≡ clock
  pub entries_are : office.entries ≡ entries
  pub none_pending : office.pending ≡ None
  pub no_marks : office.marks ≡ []
  pub no_past : office.past ≡ []
  pub refs_are : IsIndexOf entries office.refs
  pub none_later : office.later ≡ None

-- what the source had left was served over a keeper that was opened with these entries, and the office was closed;
-- so many steps were taken before, and after
pub record ServesOver {S W K C : Type 0} (left : S → Option (List ℕ)) (written : W → Option (List ℕ))
    (holding : K → Holding) (keeper_faults : K → ℕ) (days : C → Option (ℕ → ℕ))
    (source source_new : S) (sink sink_new : W) (keeper keeper_new : K) (clock clock_new : C) (steps later : ℕ)
    (entries : List Entry) (served : Served) : Type 0 where
  -- the office as it was opened, and as it was closed
  pub office : OfficeState K C
  pub closed : OfficeState K C
  pub is_new : IsNewOffice keeper clock entries office
  -- what was heard of all that the source had left, how each request was answered, and what was written; where a read
  -- of the source failed, what it has left stands behind what was heard
  pub streamed : IsStreamed (desk_of keeper_faults days) (λ o. crashes_of (holding o.keeper)) (λ o. o.past) (λ o. judging_in o)
      (left source) (left source_new) (written sink) (written sink_new) office closed steps later served
  -- the keeper and the clock are left as the stream left them: neither was asked for more
  pub kept : keeper_new ≡ closed.keeper
  pub ticked : clock_new ≡ closed.clock
  -- at the end the entries begin with those that were opened, the keeper's list spells them, with the one that is
  -- pending behind them or without it, and an opening would find them so
  pub begin : BeginWith closed.entries entries
  pub list : (holding keeper_new).tells → Spells closed.entries closed.pending (holding keeper_new).list
  pub found : (holding keeper_new).tells
      → IsFoundOf closed.entries closed.pending (opened_of (holding keeper_new).list)
  -- where the keeper tells it: from the opening on a crash at any moment leaves a front of the entries at the end, or
  -- one more that was answered 503, and from the moment of each response on what was acknowledged by then
  pub outlives : (holding keeper).tells → (holding keeper).tells_crash
      → OutliveAll (desk_of keeper_faults days) (λ o. crashes_of (holding o.keeper)) (λ o. o.past)
      streamed.exchanges streamed.exchanges office closed streamed.answered

-- a source, a sink, a keeper and a clock before and after, which clauses see by these functions, and so many steps
module _ {S W K C : Type 0} (left : S → Option (List ℕ)) (read_faults : S → ℕ)
    (written : W → Option (List ℕ)) (write_faults : W → ℕ)
    (holding : K → Holding) (keeper_faults : K → ℕ) (days : C → Option (ℕ → ℕ))
    (source source_new : S) (sink sink_new : W) (keeper keeper_new : K) (clock clock_new : C) (steps later : ℕ) where
  -- no register was opened, which is told, and nothing was served
  pub record IsUnopened (status : ℕ) : Type 0 where
    pub fault : OpenFault
    pub opened : (holding keeper).tells → Refuses fault (opened_of (holding keeper).list)
    pub cause : HasRefusalCause (keeper_faults keeper) (keeper_faults keeper_new) fault
    pub stays : (holding keeper).tells → StaysUnlessFailed (keeper_faults keeper) (keeper_faults keeper_new) fault
    pub told : TellsUnopened written write_faults sink sink_new status fault
    -- the payloads stay, and where the keeper tells it, a crash at any moment since the run began leaves a list that
    -- it could leave before, or the list itself; nothing was asked of the source and the clock
    pub same : Keeps (holding keeper) (holding keeper_new)
    pub crash : LeavesOldOrSame (holding keeper) (holding keeper_new)
    pub same_source : source_new ≡ source
    pub same_clock : clock_new ≡ clock
    pub cost : TakesRefused (holding keeper) steps later fault

  -- the register was opened, and a stream was served over it
  pub record IsServed (status : ℕ) : Type 0 where
    -- the keeper as it was opened, and the entries that its payloads stand for
    pub opened : K
    pub entries : List Entry
    pub stand_for : (holding keeper).tells → opened_of (holding keeper).list ≡ Ok entries
    pub same : Keeps (holding keeper) (holding opened)
    pub faults : keeper_faults opened ≡ keeper_faults keeper
    -- how many steps were taken when the stream began: one at most for each id that is applied to make what is kept of the
    -- works, and for each reference that is judged
    pub begun : ℕ
    pub making : begun ≤ steps + (opening_cost entries + judged_at_opening entries)
    pub served : Served
    pub serves : ServesOver left written holding keeper_faults days
        source source_new sink sink_new opened keeper_new clock clock_new begun later entries served
    -- where the keeper tells it, a crash at any moment since the run began, in the midst of the opening too, leaves what
    -- it could leave before, or the entries that were opened with a front of those that came behind them, or with one
    -- more that was answered 503
    pub crash : (holding keeper).tells → (holding keeper).tells_crash
        → LeavesOnly (IsOldOrKept (crashes_of (holding keeper)) entries (serves.closed).entries
        (serves.streamed).exchanges) (crashes_of (holding keeper)) (crashes_of (holding keeper_new))
    pub status_told : status ≡ stream_status served.end served.faulted
    -- at 0 and 1 what was written and the entries at the end are functions of the entries that were opened, of all that
    -- is heard of what the source had left, and of the days that the clock gave; and these entries are what is kept
    pub determined : (status ≡ 0) ⊎ (status ≡ 1) → IsDetermined (left source) (written sink) (written sink_new)
        entries (days clock) (serves.closed).entries
    pub kept : (status ≡ 0) ⊎ (status ≡ 1) → (holding keeper_new).tells
        → opened_of (holding keeper_new).list ≡ Ok (serves.closed).entries

  -- what a run of `batch` leaves
  pub record RanBatch (status : ℕ) : Type 0 where
    pub status_is : IsBatchStatus status
    pub went : IsUnopened status ⊎ IsServed status
    -- each fault has its cause, one of the source or the sink, and one or more of the keeper; want of memory has none
    pub source_cause : status ≡ 3 → read_faults source_new ≡ risen (read_faults source)
    pub sink_cause : status ≡ 4 → write_faults sink_new ≡ risen (write_faults sink)
    pub keeper_cause : status ≡ 5 → Rose (keeper_faults keeper) (keeper_faults keeper_new)
    -- no count rose but that of the device which the status names; that of a keeper whose failures were told may have
    -- risen before a stream or memory was wanting
    pub source_stays : status ≢ 3 → read_faults source_new ≡ read_faults source
    pub sink_stays : status ≢ 4 → write_faults sink_new ≡ write_faults sink
    pub keeper_stays : (status ≡ 0) ⊎ (status ≡ 1) → keeper_faults keeper_new ≡ keeper_faults keeper
    -- where the keeper tells its list, damage is no fault
    pub damage_is_no_fault : status ≡ 6 → (holding keeper).tells → keeper_faults keeper_new ≡ keeper_faults keeper
