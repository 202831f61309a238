-- Messages one behind another, as a stream brings them, and as a list of payloads is handed on.
use Rattle.std.specs.Prelude.{ℕ, ◌≡◌, ◌+◌, ◌^◌, ◌<◌, List, [], ◌∷◌, ◌++◌, drop, Option, Some, None}
use Rattle.law_follow.specs.Frames.{IsMessage, Message, frame, front_of, holds}

-- the bytes of messages, one frame behind another
abbrev pub frames : List Message → List ℕ
frames [] = []
frames (m ∷ ms) = frame m ++ frames ms

-- a message that can be handed on
abbrev pub IsSent : Message → Type 0
IsSent m = IsMessage m × (m.number < 2 ^ 64)

-- payloads with their numbers, of which this is the first
abbrev pub numbered : ℕ → List (List ℕ) → List Message
numbered number [] = []
numbered number (payload ∷ payloads) = record { number = number; payload = payload } ∷ numbered (number + 1) payloads

-- the messages of all payloads above a number
abbrev pub messages_above : ℕ → List (List ℕ) → List Message
messages_above from payloads = numbered (from + 1) (drop from payloads)

-- these messages stand at the front of bytes, and what is behind them
abbrev pub StandAt : List ℕ → List Message → List ℕ → Type 0
StandAt bytes [] behind = behind ≡ bytes
StandAt bytes (m ∷ ms) behind = (next : List ℕ) × (front_of bytes ≡ holds m next) × StandAt next ms behind

-- the same of what a source had left, and has left now, where it tells that
abbrev pub AreRead : Option (List ℕ) → List Message → Option (List ℕ) → Type 0
AreRead None messages left = Unit {0}
AreRead (Some bytes) messages left = (behind : List ℕ) × (left ≡ Some behind) × StandAt bytes messages behind
