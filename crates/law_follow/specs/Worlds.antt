-- A leader, a follower, and whatever lies between them: messages that are lost, repeated, late or in any order.
use Rattle.std.specs.Prelude.{ℕ, zero, suc, ◌≡◌, Bool, List, [], ◌∷◌, ◌++◌, slice_get, Option, Some, None, Result, Ok, Err, is_ok, if◌then◌else◌}
use Rattle.law_follow.specs.Frames.{Message}
use Rattle.law_follow.specs.Opening.{opened}
use Rattle.law_follow.specs.Taking.{after_taking, taken}
use Rattle.law_follow.specs.declared.taken.Taken.{Taken}
use Rattle.law_follow.specs.declared.taken.TakeFault.{TakeFault}
use Rattle.law_follow.specs.declared.taken.TakeFault.TheVariants as fault

-- payloads stand for a legal register
abbrev pub is_register : List (List ℕ) → Bool
is_register payloads = is_ok (opened payloads)

-- what the leader has, all messages that it ever sent, and what the follower has
pub record World : Type 0 where
  pub leader : List (List ℕ)
  pub sent : List Message
  pub follower : List (List ℕ)

-- what may happen next. A message that is lost is one that never comes
pub data Event : Type 0 where
  -- the leader's list grows by this payload, if it is a register still
  Grows : (payload : List ℕ) → Event
  -- the leader sends the payload of this number, if it has one
  Sends : (number : ℕ) → Event
  -- a message that was sent comes to the follower: any of them, again or late
  Comes : (which : ℕ) → Event

-- a message of a list, where it has a payload of the number
abbrev pub with_sent : List Message → ℕ → Option (List ℕ) → List Message
with_sent sent number None = sent
with_sent sent number (Some payload) = record { number = number; payload = payload } ∷ sent

abbrev pub after_message : List (List ℕ) → Option Message → List (List ℕ)
after_message payloads None = payloads
after_message payloads (Some m) = after_taking payloads m.number m.payload

-- the payload of a number, which is counted from 1
abbrev pub payload_at : List (List ℕ) → ℕ → Option (List ℕ)
payload_at payloads zero = None
payload_at payloads (suc n) = slice_get payloads n

abbrev pub happens : World → Event → World
happens w (Grows payload) = record {
  leader = if is_register (w.leader ++ payload ∷ []) then w.leader ++ payload ∷ [] else w.leader;
  sent = w.sent;
  follower = w.follower;
}
happens w (Sends number) =
    record { leader = w.leader; sent = with_sent w.sent number (payload_at w.leader number); follower = w.follower }
happens w (Comes which) =
    record { leader = w.leader; sent = w.sent; follower = after_message w.follower (slice_get w.sent which) }

-- a whole course of events
abbrev pub after_all : List Event → World → World
after_all [] w = w
after_all (event ∷ events) w = after_all events (happens w event)

-- nothing has happened yet
abbrev pub nothing : World
nothing = record { leader = []; sent = []; follower = [] }

-- a list is the front of another
abbrev pub IsFrontOf : List (List ℕ) → List (List ℕ) → Type 0
IsFrontOf payloads all = (rest : List (List ℕ)) × (payloads ++ rest ≡ all)

-- an answer that refuses nothing: the payload was added, was known, or is for later
abbrev pub RefusesNothing : Result Taken TakeFault → Type 0
RefusesNothing (Ok answer) = Unit {0}
RefusesNothing (Err (fault.Gap expected got)) = Unit {0}
RefusesNothing (Err (fault.Conflict n)) = ⊥
RefusesNothing (Err (fault.BadEntry broken)) = ⊥
RefusesNothing (Err (fault.NotAccepted rule)) = ⊥
RefusesNothing (Err fault.KeeperFault) = ⊥
RefusesNothing (Err fault.Memory) = ⊥

-- whatever comes next of what was sent, the follower does not refuse it
abbrev pub IsTrusting : World → Type 0
IsTrusting w = (which : ℕ) (m : Message) → slice_get w.sent which ≡ Some m
    → RefusesNothing (taken w.follower m.number m.payload)
