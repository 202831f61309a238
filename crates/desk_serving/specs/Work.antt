-- What workers do: each answers the connections that come in through a gate of its own, one after another.
use Rattle.std.specs.Prelude.{ℕ, ◌≡◌, ◌+◌, ◌≤◌, ◌||◌, Bool, true, false, List, [], ◌∷◌, ◌++◌, length, map, Option, None, Some, ⊤, if◌then◌else◌}
use Rattle.std.specs.List.{AllByRecursion, list_any}
use mathlib.Core.List.{IsPrefix}
use Rattle.desk_base.specs.Streams.{risen}
use Rattle.desk_gates.specs.Tallies.{Tally, IsUnused, ended}
use Rattle.atomic_table.specs.Seated.{TableId}
use Rattle.turn_lock.specs.declared.pass.Pass.{Pass}
use Rattle.turn_lock.specs.declared.turns.Turns.{Turns}
use Rattle.turn_lock.specs.Passes.{seen_by, made_by, share_of, IsPassOf, BeganAs}
use Rattle.law_http.specs.Connections.{IsMadeOf, IsWellAnswered, StaysPass, commands_heard}
use Rattle.law_http.specs.Hearing.{AreHeard}
use Rattle.law_http.specs.Streaming.{HasReadCause, HasWriteCause}
use Rattle.law_http.specs.declared.heard.Heard.{Heard}
use Rattle.law_register.specs.Desk.History.{entries_of}
use Rattle.law_register.specs.Register.Verdicts.{is_legal}
use Rattle.desk_serving.specs.declared.hand.Hand.{Hand}
use Rattle.desk_serving.specs.declared.outcome.Outcome.{Outcome}
use Rattle.law_register.specs.declared.desk.event.Event.{Event}
use Rattle.law_http.specs.declared.streaming.Served.{Served}
use Rattle.law_http.specs.declared.streaming.StreamEnd.{StreamEnd}
use Rattle.law_http.specs.declared.streaming.StreamEnd.TheVariants as ends

-- a connection as a gate gave it and as it took it back, and what was served of it
pub record Visit (C : Type 0) : Type 0 where
  pub given : C
  pub back : C
  pub served : Served

-- what a pass has seen, and how many entries were added in its turns
pub record Moment : Type 0 where
  pub seen : List Event
  pub made : ℕ

abbrev pub moment_of : {T : Type 0} → Pass T Event → Moment
moment_of pass = record { seen = seen_by pass; made = made_by pass }

-- for how many callers the passes of these hands stand
abbrev pub shares_in : {T : Type 0} → List (Hand T Event) → ℕ
shares_in [] = 0
shares_in (hand ∷ hands) = share_of hand.pass + shares_in hands

-- how many entries were added in their turns
abbrev pub made_with : {T : Type 0} → List (Hand T Event) → ℕ
made_with [] = 0
made_with (hand ∷ hands) = made_by hand.pass + made_with hands

-- a stream ended because there was not enough memory
abbrev pub wants_memory : StreamEnd → Bool
wants_memory ends.Memory = true
wants_memory _ = false

-- one of these connections did
abbrev pub some_wants_memory : {C : Type 0} → List (Visit C) → Bool
some_wants_memory visits = list_any (λ v. wants_memory v.served.end) visits

-- a list that is told, with these behind
abbrev pub and_more : {A : Type 0} → Option (List A) → List A → Option (List A)
and_more None more = None
and_more (Some all) more = Some (all ++ more)

-- of a connection that had these bytes left, where it tells them: at most two events were made for each command with a good
-- form that is heard of them, and at most one each where no mark was seen
abbrev pub MakesFew : Option (List ℕ) → List Event → ℕ → ℕ → Type 0
MakesFew left seen before now = (bytes : List ℕ) (members : List Heard) → left ≡ Some bytes → AreHeard bytes members
    → IsMadeOf (commands_heard members) seen before now

-- the count of faults of a gate that failed or not
abbrev pub counted : Bool → ℕ → ℕ
counted failed faults = if failed then risen faults else faults

-- memory was wanting: for the workers' passes, or of some connection
abbrev pub is_wanting : Option Outcome → Bool
is_wanting None = true
is_wanting (Some outcome) = outcome.wanting

-- some gate failed
abbrev pub is_broken : Option Outcome → Bool
is_broken None = false
is_broken (Some outcome) = outcome.failed

-- what a worker did at its gate: the connections that it answered, what its pass knew then, and whether the gate failed
pub record Stint (C : Type 0) : Type 0 where
  pub visits : List (Visit C)
  pub after : Moment
  pub failed : Bool

-- some gate failed
abbrev pub some_failed : {C : Type 0} → List (Stint C) → Bool
some_failed stints = list_any (λ s. s.failed) stints

-- how many entries were added in all
abbrev pub made_in : {C : Type 0} → List (Stint C) → ℕ
made_in [] = 0
made_in (stint ∷ stints) = stint.after.made + made_in stints

-- a gate took back each connection that it gave
abbrev pub IsSettled : {G : Type 0} → (G → Tally) → G → Type 0
IsSettled tally gate = (tally gate).given ≡ (tally gate).taken

module _ {G : Type 0} (listens : G → Bool) (tally : G → Tally) where
  -- a gate that gives connections, each of which it took back
  pub record MayServe (gate : G) : Type 0 where
    pub gives : listens gate ≡ true
    pub settled : IsSettled tally gate

  -- a worker may begin: its gate gives connections, or has failed
  pub record MayAttend {T : Type 0} (turns : TableId) (gate : G) (hand : Hand T Event) : Type 0 where
    pub own : IsPassOf turns hand.pass
    pub legal : is_legal (entries_of (seen_by hand.pass)) ≡ true
    pub ready : hand.failed ≡ false → MayServe gate

-- a gate was asked to listen, for a worker with this hand, in which it is noted where that failed
pub record HasListened {G T : Type 0} (listens : G → Bool) (tally : G → Tally) (faults : G → ℕ) (gate gate_new : G)
    (hand hand_new : Hand T Event) : Type 0 where
  pub pass : hand_new.pass ≡ hand.pass
  pub wanting : hand_new.wanting ≡ hand.wanting
  pub told : tally gate_new ≡ tally gate
  pub cause : faults gate_new ≡ counted hand_new.failed (faults gate)
  pub gives : hand_new.failed ≡ false → listens gate_new ≡ true

-- connections, which clauses see by these functions
module _ {C : Type 0} (left written : C → Option (List ℕ)) (read_faults write_faults : C → ℕ) where
  -- the tally of a gate that gave these connections too, and took each back
  abbrev pub with_visits : List (Visit C) → Tally → Tally
  with_visits visits t = record {
    given = t.given + length visits;
    taken = t.taken + length visits;
    lefts = and_more t.lefts (map (λ v. left v.given) visits);
    ends = and_more t.ends (map (λ v. ended written read_faults write_faults v.back) visits);
  }

  -- a connection was answered between these moments: it was new when it was given, it was well answered from what had
  -- been seen to what was seen later, whose entries are legal, a fault ends it only where its own count rose, and no more
  -- was added than it asks for
  pub record IsVisitAnswered (visit : Visit C) (before after : Moment) : Type 0 where
    pub unused : IsUnused (written visit.given) (read_faults visit.given) (write_faults visit.given)
    pub answered : IsWellAnswered before.seen after.seen (left visit.given) (left visit.back)
        (written visit.given) (written visit.back) visit.served
    pub legal : is_legal (entries_of after.seen) ≡ true
    pub reads : HasReadCause visit.served.end (read_faults visit.given) (read_faults visit.back)
    pub writes : HasWriteCause visit.served.end (write_faults visit.given) (write_faults visit.back)
    pub made : MakesFew (left visit.given) after.seen before.made after.made

  -- connections were answered one after another
  abbrev pub AreVisitsAnswered : List (Visit C) → Moment → Moment → Type 0
  AreVisitsAnswered [] before after = after ≡ before
  AreVisitsAnswered (visit ∷ visits) before after =
      (mid : Moment) × IsVisitAnswered visit before mid × AreVisitsAnswered visits mid after

  -- what a worker did at its gate: these connections were given, answered and taken back, at most so many, and exactly
  -- so many where the gate did not fail
  pub record HasWorked (count : ℕ) (tally tally_new : Tally) (faults faults_new : ℕ) (before after : Moment)
      (wanted failed wanting : Bool) : Type 0 where
    pub visits : List (Visit C)
    pub told : tally_new ≡ with_visits visits tally
    pub answered : AreVisitsAnswered visits before after
    pub few : length visits ≤ count
    pub all : failed ≡ false → length visits ≡ count
    pub cause : faults_new ≡ counted failed faults
    pub wants : wanting ≡ (wanted || some_wants_memory visits)

  module _ {G : Type 0} (tally : G → Tally) (faults : G → ℕ) where
    -- what a worker makes of its gate and its hand
    pub record HasAttended {T : Type 0} (turns : Turns T Event) (count : ℕ) (gate : G) (hand : Hand T Event) (gate_new : G)
        (hand_new : Hand T Event) : Type 0 where
      pub pass : StaysPass turns hand.pass hand_new.pass
      pub idle : hand.failed ≡ true → (gate_new ≡ gate) × (hand_new ≡ hand)
      pub worked : hand.failed ≡ false → HasWorked count (tally gate) (tally gate_new) (faults gate) (faults gate_new)
          (moment_of hand.pass) (moment_of hand_new.pass) hand.wanting hand_new.failed hand_new.wanting

    -- how a gate was served over a history that began with these events and ended with those, where memory was wanting or
    -- not: each connection that it gave was answered and taken back, one after another, at most so many, and exactly so
    -- many where neither the gate failed nor memory was wanting
    pub record WasServed (count : ℕ) (opened closed : List Event) (wanting : Bool) (gate gate_new : G) (stint : Stint C)
        : Type 0 where
      pub told : tally gate_new ≡ with_visits stint.visits (tally gate)
      pub answered : AreVisitsAnswered stint.visits (record { seen = opened; made = 0 }) stint.after
      pub begins : IsPrefix stint.after.seen closed
      pub few : length stint.visits ≤ count
      pub all : stint.failed ≡ false → wanting ≡ false → length stint.visits ≡ count
      pub cause : faults gate_new ≡ counted stint.failed (faults gate)
      pub wants : some_wants_memory stint.visits ≡ true → wanting ≡ true

    -- each of these gates was served so
    abbrev pub WereServed : ℕ → List Event → List Event → Bool → List G → List G → List (Stint C) → Type 0
    WereServed count opened closed wanting [] [] [] = ⊤
    WereServed count opened closed wanting (gate ∷ gates) (gate_new ∷ gates_new) (stint ∷ stints) =
        WasServed count opened closed wanting gate gate_new stint
        × WereServed count opened closed wanting gates gates_new stints
    WereServed count opened closed wanting gates gates_new stints = ⊥

    -- gates were served at once: so many entries were added in all, and some gate failed or none did
    pub record HaveWorked (count : ℕ) (opened closed : List Event) (gates gates_new : List G) (made : ℕ)
        (failed wanting : Bool) : Type 0 where
      pub stints : List (Stint C)
      pub served : WereServed count opened closed wanting gates gates_new stints
      pub failures : failed ≡ some_failed stints
      pub made_is : made ≡ made_in stints

    -- gates were served over one history, which has what all of them added and no more
    pub record HaveServed (count : ℕ) (opened closed : List Event) (gates gates_new : List G) (failed wanting : Bool)
        : Type 0 where
      pub made : ℕ
      pub worked : HaveWorked count opened closed gates gates_new made failed wanting
      pub begins : IsPrefix opened closed
      pub grown : length closed ≡ length opened + made
      pub legal : is_legal (entries_of closed) ≡ true

module _ {T : Type 0} (turns : TableId) where
  -- what a pass is after so much of its share was given away: it knows what it knew, and maybe more
  pub record IsRest (given : ℕ) (pass pass_new : Pass T Event) : Type 0 where
    pub own : IsPassOf turns pass_new
    pub share : share_of pass_new + given ≡ share_of pass
    pub begins : IsPrefix (seen_by pass) (seen_by pass_new)
    pub made : made_by pass_new ≡ made_by pass
    pub began : BeganAs pass_new pass

  -- a hand that was just split off a pass that had seen these events: no gate failed, and no memory was wanting
  pub record IsNewHand (seen : List Event) (hand : Hand T Event) : Type 0 where
    pub own : IsPassOf turns hand.pass
    pub share : share_of hand.pass ≡ 1
    pub knows : seen_by hand.pass ≡ seen
    pub none_made : made_by hand.pass ≡ 0
    pub whole : hand.failed ≡ false
    pub wanting : hand.wanting ≡ false

  -- the same of each of these hands
  abbrev pub AreNewHands : List Event → List (Hand T Event) → Type 0
  AreNewHands seen hands = AllByRecursion (IsNewHand seen) hands

  -- a pass took in a hand
  pub record HasJoined (hand : Hand T Event) (pass pass_new : Pass T Event) : Type 0 where
    pub own : IsPassOf turns pass_new
    pub share : share_of pass_new ≡ share_of pass + share_of hand.pass
    pub begins : IsPrefix (seen_by pass) (seen_by pass_new)
    pub begins_other : IsPrefix (seen_by hand.pass) (seen_by pass_new)
    pub made : made_by pass_new ≡ made_by pass + made_by hand.pass
    pub began : BeganAs pass_new pass

  -- a pass took in all of these hands
  pub record HaveJoined (hands : List (Hand T Event)) (pass pass_new : Pass T Event) : Type 0 where
    pub own : IsPassOf turns pass_new
    pub share : share_of pass_new ≡ share_of pass + shares_in hands
    pub begins : IsPrefix (seen_by pass) (seen_by pass_new)
    pub begins_all : AllByRecursion (λ h. IsPrefix (seen_by h.pass) (seen_by pass_new)) hands
    pub made : made_by pass_new ≡ made_by pass + made_with hands
    pub began : BeganAs pass_new pass

  -- a pass stands for as many callers as before, and knows what it knew, and maybe more
  pub record IsLater (pass pass_new : Pass T Event) : Type 0 where
    pub own : IsPassOf turns pass_new
    pub share : share_of pass_new ≡ share_of pass
    pub begins : IsPrefix (seen_by pass) (seen_by pass_new)
    pub began : BeganAs pass_new pass
