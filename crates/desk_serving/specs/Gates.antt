-- How connections that came in through gates were served, between the history that was opened and the one in the end.
use Rattle.std.specs.Prelude.{ℕ, ◌≡◌, ◌≤◌, ◌+◌, ◌⊎◌, Bool, true, false, List, [], ◌∷◌, length, Option, Some, ⊤}
use Rattle.std.specs.List.{AllByRecursion}
use mathlib.Core.List.{IsPrefix}
use Rattle.desk_base.specs.Streams.{risen}
use Rattle.desk_gates.specs.Tallies.{Tally, IsUnused}
use Rattle.law_http.specs.Connections.{IsMadeOf, IsWellAnswered, commands_heard}
use Rattle.law_http.specs.Hearing.{AreHeard}
use Rattle.law_http.specs.Streaming.{HasReadCause, HasWriteCause}
use Rattle.law_http.specs.declared.heard.Heard.{Heard}
use Rattle.law_register.specs.Desk.History.{entries_of}
use Rattle.law_register.specs.Register.Verdicts.{is_legal}
use Rattle.law_http.specs.declared.streaming.StreamEnd.{StreamEnd}
use Rattle.law_http.specs.declared.streaming.StreamEnd.TheVariants as ends
use Rattle.law_register.specs.declared.desk.event.Event.{Event}
use Rattle.desk_serving.specs.Work.{Visit, counted, with_visits}

-- a stream was answered to its end, or to what is no request
abbrev pub IsWhole : StreamEnd → Type 0
IsWhole ends.End = ⊤
IsWhole (ends.Refused refusal) = ⊤
IsWhole _ = ⊥

-- connections, which clauses see by these functions
module _ {C : Type 0} (left written : C → Option (List ℕ)) (read_faults write_faults : C → ℕ) where
  -- a connection was served between these histories: it was new when it was given, and was well answered; a fault ended it
  -- only where its own count rose, and all that it asked was answered unless one did, or memory was wanting
  pub record IsVisitServed (opened closed : List Event) (wanting : Bool) (visit : Visit C) : Type 0 where
    pub unused : IsUnused (written visit.given) (read_faults visit.given) (write_faults visit.given)
    pub answered : IsWellAnswered opened closed (left visit.given) (left visit.back)
        (written visit.given) (written visit.back) visit.served
    pub reads : HasReadCause visit.served.end (read_faults visit.given) (read_faults visit.back)
    pub writes : HasWriteCause visit.served.end (write_faults visit.given) (write_faults visit.back)
    pub whole : read_faults visit.back ≡ 0 → write_faults visit.back ≡ 0 → wanting ≡ false → IsWhole visit.served.end

  -- of connections that tell their bytes, so many commands with a good form are heard
  abbrev pub AskSoMany : List (Visit C) → ℕ → Type 0
  AskSoMany [] n = n ≡ 0
  AskSoMany (visit ∷ visits) n = (bytes : List ℕ) × (members : List Heard) × (m : ℕ)
      × (left visit.given ≡ Some bytes) × AreHeard bytes members × AskSoMany visits m
      × (n ≡ commands_heard members + m)

  -- the same of the connections of several gates
  abbrev pub AskInAll : List (List (Visit C)) → ℕ → Type 0
  AskInAll [] n = n ≡ 0
  AskInAll (visits ∷ more) n = (k m : ℕ) × AskSoMany visits k × AskInAll more m × (n ≡ k + m)

  module _ {G : Type 0} (tally : G → Tally) (faults : G → ℕ) where
    -- a gate was served between these histories: these are the connections that it gave, each of which it took back; not
    -- more than so many, and exactly so many where neither its count rose nor memory was wanting. Where it failed, some
    -- gate did
    pub record IsGateServed (count : ℕ) (opened closed : List Event) (wanting broken : Bool) (gate gate_new : G)
        (visits : List (Visit C)) : Type 0 where
      pub told : tally gate_new ≡ with_visits left written read_faults write_faults visits (tally gate)
      pub served : AllByRecursion (IsVisitServed opened closed wanting) visits
      pub few : length visits ≤ count
      pub failed : Bool
      pub cause : faults gate_new ≡ counted failed (faults gate)
      pub all : failed ≡ false → wanting ≡ false → length visits ≡ count
      pub named : failed ≡ true → broken ≡ true

    -- each of these gates
    abbrev pub AreGatesServed : ℕ → List Event → List Event → Bool → Bool → List G → List G → List (List (Visit C)) → Type 0
    AreGatesServed count opened closed wanting broken [] [] [] = ⊤
    AreGatesServed count opened closed wanting broken (gate ∷ gates) (gate_new ∷ gates_new) (visits ∷ more) =
        IsGateServed count opened closed wanting broken gate gate_new visits
        × AreGatesServed count opened closed wanting broken gates gates_new more
    AreGatesServed count opened closed wanting broken gates gates_new visits = ⊥

    -- the count of some gate rose, or stands at its last value
    abbrev pub SomeGateRose : List G → List G → Type 0
    SomeGateRose (gate ∷ gates) (gate_new ∷ gates_new) =
        (faults gate_new ≡ risen (faults gate)) ⊎ SomeGateRose gates gates_new
    SomeGateRose gates gates_new = ⊥

    -- gates were served at once between these histories: what came in through each of them, and how it was served. Where
    -- some gate failed, a count rose. Where all connections tell their bytes, the history grew by at most two events for
    -- each command with a good form, and by at most one each where it has no mark
    pub record WereGatesServed (count : ℕ) (opened closed : List Event) (wanting broken : Bool) (gates gates_new : List G)
        : Type 0 where
      pub visits : List (List (Visit C))
      pub served : AreGatesServed count opened closed wanting broken gates gates_new visits
      pub rose : broken ≡ true → SomeGateRose gates gates_new
      pub begins : IsPrefix opened closed
      pub legal : is_legal (entries_of closed) ≡ true
      pub grown : (n : ℕ) → AskInAll visits n → IsMadeOf n closed (length opened) (length closed)
