-- What a run of `serve` leaves: connections that come in through gates are served over the register that a keeper keeps, all
-- gates at once.
use Rattle.std.specs.Prelude.{ℕ, ◌≡◌, ◌≢◌, ◌≤◌, ◌+◌, ◌++◌, ◌⊎◌, ◌↔◌, Bool, true, if◌then◌else◌, List, [], ◌∷◌, length, map, codes, Option, Ok, IsTrue}
use Rattle.std.specs.Fmt.{decimal}
use Rattle.desk_base.specs.Streams.{Rose, risen}
use Rattle.desk_gates.specs.Tallies.{Tally}
use Rattle.dossier_text.specs.Reports.{Told}
use Rattle.law_keeper.specs.Keepers.{Holding, Keeps, LeavesOldOrSame}
use Rattle.law_office.specs.Offices.{OfficeState, RoseWith, Spells, desk_of}
use Rattle.law_office.specs.Opening.{HasRefusalCause, Refuses, StaysUnlessFailed, opened_of}
use Rattle.law_register.specs.Desk.History.{history_of}
use Rattle.law_register.specs.Desk.States.{IsFoundOf}
use Rattle.law_register.specs.Register.LawList.{front}
use Rattle.law_register.specs.Register.Verdicts.{is_legal}
use Rattle.law_register.specs.declared.desk.event.Event.TheVariants.{Entered}
use Rattle.law_register.specs.declared.desk.open_fault.OpenFault.{OpenFault}
use Rattle.law_register.specs.declared.register.entry.Entry.{Entry}
use Rattle.desk_serving.specs.Gates.{AskInAll, SomeGateRose, WereGatesServed}
use Rattle.lawdesk.specs.Outliving.{BeginWith}
use Rattle.lawdesk.specs.Telling.{Tells, TellsUnopened}

-- the statuses of `serve`: 0 each gate gave as many connections as it was to give, 4 the sink failed, 5 the keeper failed
-- when it was opened, or some mark says that it did, 6 what is kept is damaged, 7 for want of memory, 8 a gate failed
abbrev pub IsServeStatus : ℕ → Type 0
IsServeStatus status =
    (status ≡ 0) ⊎ ((status ≡ 4) ⊎ ((status ≡ 5) ⊎ ((status ≡ 6) ⊎ ((status ≡ 7) ⊎ (status ≡ 8)))))

-- the status of what was served: a gate that failed comes before a keeper that did
abbrev pub served_status : Bool → Bool → ℕ
served_status broken faulted = if broken then 8 else (if faulted then 5 else 0)

-- what is told at the end: how many law entries there are
abbrev pub told_front : ℕ → Bool → Bool → Told
told_front n broken faulted = record {
  status = served_status broken faulted;
  bytes = codes "front " ++ decimal n ++ 10 ∷ [];
}

-- that is told; but the status is 7, whatever came of it, where there was not enough memory for a worker
pub record IsEnded {W : Type 0} (written : W → Option (List ℕ)) (faults : W → ℕ) (n : ℕ) (wanting broken faulted : Bool)
    (sink sink_new : W) (status : ℕ) : Type 0 where
  pub said : ℕ
  pub tells : Tells written faults sink sink_new said (told_front n broken faulted)
  pub status_told : status ≡ (if wanting then 7 else said)

-- the connections of gates, and gates, which clauses see by these functions
module _ {C : Type 0} (left written : C → Option (List ℕ)) (read_faults write_faults : C → ℕ)
    {G : Type 0} (tally : G → Tally) (faults : G → ℕ) where
  -- gates were served over a keeper that was opened with these entries, and the office was closed: whether memory was
  -- wanting, a gate failed, and some mark was made, and how many law entries there are
  pub record ServesGates {K D : Type 0} (holding : K → Holding) (keeper_faults : K → ℕ) (days : D → Option (ℕ → ℕ))
      (count : ℕ) (entries : List Entry) (keeper keeper_new : K) (clock clock_new : D) (gates gates_new : List G)
      (wanting broken faulted : Bool) (n : ℕ) : Type 0 where
    -- the office as it was closed: its entries are legal, and begin with those that were opened
    pub closed : OfficeState K D
    pub begin : BeginWith closed.entries entries
    pub legal : is_legal closed.entries ≡ true
    pub front_is : n ≡ front closed.entries
    -- what came in through each gate, and how it was served, between the history that was opened and the one in the end
    pub served : WereGatesServed left written read_faults write_faults tally faults count (map (λ entry. Entered entry) entries)
        (history_of (desk_of keeper_faults days closed)) wanting broken gates gates_new
    -- where all connections tell their bytes and no mark was made, not more entries came than commands with a good form
    pub grown : (asked : ℕ) → AskInAll left written read_faults write_faults (served.visits) asked → closed.marks ≡ []
        → length closed.entries ≤ length entries + asked
    -- the keeper and the clock are left as the office left them. The keeper's list spells the entries, with the one
    -- that is pending behind them or without it, an opening would find them so, and its count rose with the marks
    pub kept : keeper_new ≡ closed.keeper
    pub ticked : clock_new ≡ closed.clock
    pub list : (holding keeper_new).tells → Spells closed.entries closed.pending (holding keeper_new).list
    pub found : (holding keeper_new).tells
        → IsFoundOf closed.entries closed.pending (opened_of (holding keeper_new).list)
    pub rose : RoseWith closed.marks (keeper_faults keeper) (keeper_faults keeper_new)
    pub marked : IsTrue faulted ↔ (closed.marks ≢ [])

  -- a sink, a keeper, a clock and gates before and after, which clauses see by these functions
  module _ {W K D : Type 0} (sink_written : W → Option (List ℕ)) (sink_faults : W → ℕ)
      (holding : K → Holding) (keeper_faults : K → ℕ) (days : D → Option (ℕ → ℕ))
      (sink sink_new : W) (keeper keeper_new : K) (clock clock_new : D) (gates gates_new : List G) where
    -- no register was opened, which is told, and nothing was asked of the clock and the gates
    pub record IsUnopened (status : ℕ) : Type 0 where
      pub fault : OpenFault
      pub opened : (holding keeper).tells → Refuses fault (opened_of (holding keeper).list)
      pub cause : HasRefusalCause (keeper_faults keeper) (keeper_faults keeper_new) fault
      pub stays : (holding keeper).tells → StaysUnlessFailed (keeper_faults keeper) (keeper_faults keeper_new) fault
      pub told : TellsUnopened sink_written sink_faults sink sink_new status fault
      pub same : Keeps (holding keeper) (holding keeper_new)
      pub crash : LeavesOldOrSame (holding keeper) (holding keeper_new)
      pub same_clock : clock_new ≡ clock
      pub same_gates : gates_new ≡ gates

    -- the register was opened, and the gates were served over it at once
    pub record IsServed (count : ℕ) (status : ℕ) : Type 0 where
      -- the keeper as it was opened, and the entries that its payloads stand for
      pub opened : K
      pub entries : List Entry
      pub stand_for : (holding keeper).tells → opened_of (holding keeper).list ≡ Ok entries
      pub same : Keeps (holding keeper) (holding opened)
      pub faults_stay : keeper_faults opened ≡ keeper_faults keeper
      pub wanting : Bool
      pub broken : Bool
      pub faulted : Bool
      pub n : ℕ
      pub serves : ServesGates holding keeper_faults days count entries opened keeper_new clock clock_new gates gates_new
          wanting broken faulted n
      pub ended : IsEnded sink_written sink_faults n wanting broken faulted sink sink_new status

    -- what a run of `serve` leaves
    pub record RanServe (count : ℕ) (status : ℕ) : Type 0 where
      pub status_is : IsServeStatus status
      pub went : IsUnopened status ⊎ IsServed count status
      -- each fault has its cause; want of memory has none
      pub sink_cause : status ≡ 4 → sink_faults sink_new ≡ risen (sink_faults sink)
      pub keeper_cause : status ≡ 5 → Rose (keeper_faults keeper) (keeper_faults keeper_new)
      pub gate_cause : status ≡ 8 → SomeGateRose left written read_faults write_faults tally faults gates gates_new
      -- no count rose but where a status says so
      pub sink_stays : status ≢ 4 → status ≢ 7 → sink_faults sink_new ≡ sink_faults sink
      pub keeper_stays : status ≡ 0 → keeper_faults keeper_new ≡ keeper_faults keeper
      pub damage_is_no_fault : status ≡ 6 → (holding keeper).tells → keeper_faults keeper_new ≡ keeper_faults keeper
