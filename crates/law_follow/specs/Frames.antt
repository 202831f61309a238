-- Frames, in which the payloads of a list are handed on.
use Rattle.std.specs.Prelude.{ℕ, ◌≡◌, ◌≤◌, ◌<◌, ◌+◌, ◌==◌, ◌⊎◌, nat_le, nat_lt, Bool, ◌&&◌, List, [], ◌∷◌, ◌++◌, length, take, drop, get_or, Option, Some, None, Result, Ok, Err, IsTrue, if◌then◌else◌}
use Rattle.std.specs.Int.{w32, w64, from_be_bytes, to_be_bytes}
use Rattle.desk_base.specs.Streams.{risen}
use Rattle.law_journal.specs.Grammar.{is_size}
use Rattle.law_follow.specs.declared.frame.Frame.{Frame}
use Rattle.law_follow.specs.declared.frame.FrameFault.{FrameFault}
use Rattle.law_follow.specs.declared.frame.FrameFault.TheVariants as fault
use Rattle.law_follow.specs.declared.frame.Head.{Head}
use Rattle.law_follow.specs.declared.frame.TheConstants.{HEAD_SIZE, MARK}

-- a payload that is handed on, with its number in the list from which it comes, counted from 1
pub record Message : Type 0 where
  pub number : ℕ
  pub payload : List ℕ

-- the head of a frame: its mark, the number, and how long the payload is
abbrev pub head_of : ℕ → ℕ → List ℕ
head_of number size = MARK ∷ to_be_bytes w64 number ++ to_be_bytes w32 size

-- the bytes of a frame: its head, and the payload
abbrev pub frame_of : ℕ → List ℕ → List ℕ
frame_of number payload = head_of number (length payload) ++ payload

abbrev pub frame : Message → List ℕ
frame m = frame_of m.number m.payload

-- what bytes say that are as long as a head
abbrev pub number_in : List ℕ → ℕ
number_in head = from_be_bytes w64 (take 8 (drop 1 head))

abbrev pub size_in : List ℕ → ℕ
size_in head = from_be_bytes w32 (take 4 (drop 9 head))

-- bytes are a head: numbers begin with 1, and a payload has 1 to 16,777,216 bytes
abbrev pub is_head : List ℕ → Bool
is_head head = (length head == HEAD_SIZE) && ((get_or head 0 0 == MARK) && (nat_le 1 (number_in head) && is_size (size_in head)))

unfoldable pub head_in : List ℕ → Option Head
head_in head = if is_head head then Some (record { number = number_in head; size = size_in head }) else None

-- what bytes begin with: nothing, where there are none; a message, with the bytes behind its frame; or no frame
pub data Front : Type 0 where
  ends : Front
  holds : Message → List ℕ → Front
  breaks : Front

-- a payload has to be there whole
abbrev pub payload_front : ℕ → ℕ → List ℕ → Front
payload_front number size bytes = if nat_lt (length bytes) size then breaks
    else holds (record { number = number; payload = take size bytes }) (drop size bytes)

abbrev pub headed : Option Head → List ℕ → Front
headed None bytes = breaks
headed (Some head) bytes = payload_front head.number head.size bytes

unfoldable pub front_of : List ℕ → Front
front_of bytes = if length bytes == 0 then ends else headed (head_in (take HEAD_SIZE bytes)) (drop HEAD_SIZE bytes)

-- a frame as it is handed on
abbrev pub message_of : Frame → Message
message_of f = record { number = f.number; payload = f.payload.items }

-- a message keeps the rules of frames
abbrev pub IsMessage : Message → Type 0
IsMessage m = (1 ≤ m.number) × IsTrue (is_size (length m.payload))

-- these bytes are the first of what a source had left, and what it has left now are the others; they are all of them, or as
-- many as were wanted
pub record IsPiece (size : ℕ) (all : List ℕ) (now : Option (List ℕ)) (bytes : List ℕ) : Type 0 where
  pub rest : List ℕ
  pub left : now ≡ Some rest
  pub begins : all ≡ bytes ++ rest
  pub enough : (rest ≡ []) ⊎ (size ≤ length bytes)

-- the same of a source that tells what it has left; of another nothing is known
abbrev pub IsPieceOf : ℕ → Option (List ℕ) → Option (List ℕ) → List ℕ → Type 0
IsPieceOf size None now bytes = Unit {0}
IsPieceOf size (Some all) now bytes = IsPiece size all now bytes

-- how many bytes the frame has that begins here, by its head; those of a head, where there is none
abbrev pub size_by : Option Head → ℕ
size_by None = HEAD_SIZE
size_by (Some head) = HEAD_SIZE + head.size

abbrev pub frame_size : List ℕ → ℕ
frame_size bytes = size_by (head_in (take HEAD_SIZE bytes))

-- fewer bytes than so many were taken
pub record TakesFewer (size : ℕ) (bytes : List ℕ) (left : Option (List ℕ)) : Type 0 where
  pub count : ℕ
  pub fewer : count < size
  pub behind : left ≡ Some (drop count bytes)

-- the same of a source that tells what it has left
abbrev pub TakesFewerOf : ℕ → Option (List ℕ) → Option (List ℕ) → Type 0
TakesFewerOf size None left = Unit {0}
TakesFewerOf size (Some bytes) left = TakesFewer size bytes left

-- a frame is read where one stands, and nothing at the end of the input. Where no frame stands, its head was taken, and where
-- one is not there whole, all that is there; a source that fails, and want of memory, leave a part of the frame untaken
abbrev pub ReadsOf : List ℕ → Option (List ℕ) → Result (Option Frame) FrameFault → Type 0
ReadsOf bytes left (Ok None) = (front_of bytes ≡ ends) × (left ≡ Some [])
ReadsOf bytes left (Ok (Some f)) = (rest : List ℕ) × (left ≡ Some rest) × (front_of bytes ≡ holds (message_of f) rest)
ReadsOf bytes left (Err fault.BadFrame) = (front_of bytes ≡ breaks) × (left ≡ Some (drop (frame_size bytes) bytes))
ReadsOf bytes left (Err fault.ReadFault) = TakesFewer (frame_size bytes) bytes left
ReadsOf bytes left (Err fault.Memory) = TakesFewer (frame_size bytes) bytes left

abbrev pub Reads : Option (List ℕ) → Option (List ℕ) → Result (Option Frame) FrameFault → Type 0
Reads None left result = Unit {0}
Reads (Some bytes) left result = ReadsOf bytes left result

-- the same of the payload behind a head that was read
abbrev pub ReadsPayload : ℕ → ℕ → Option (List ℕ) → Option (List ℕ) → Result Frame FrameFault → Type 0
ReadsPayload number size None left result = Unit {0}
ReadsPayload number size (Some bytes) left (Ok f) =
    (rest : List ℕ) × (left ≡ Some rest) × (payload_front number size bytes ≡ holds (message_of f) rest)
ReadsPayload number size (Some bytes) left (Err fault.BadFrame) = (length bytes < size) × (left ≡ Some [])
ReadsPayload number size (Some bytes) left (Err fault.ReadFault) = TakesFewer size bytes left
ReadsPayload number size (Some bytes) left (Err fault.Memory) = TakesFewer size bytes left

-- a fault of reading is one more in the count of the source's faults; else the count is as it was
abbrev pub HasReadCause : {T : Type 0} → ℕ → ℕ → Result T FrameFault → Type 0
HasReadCause before now (Ok value) = now ≡ before
HasReadCause before now (Err fault.BadFrame) = now ≡ before
HasReadCause before now (Err fault.ReadFault) = now ≡ risen before
HasReadCause before now (Err fault.Memory) = now ≡ before

-- a fault that is of the source or of the memory, and not of the bytes
abbrev pub IsOfDevice : FrameFault → Type 0
IsOfDevice fault.BadFrame = ⊥
IsOfDevice fault.ReadFault = Unit {0}
IsOfDevice fault.Memory = Unit {0}

-- a frame that was read, as that which comes next
abbrev pub framed : Result Frame FrameFault → Result (Option Frame) FrameFault
framed (Ok f) = Ok (Some f)
framed (Err given) = Err given
