-- The state of a journal, and what its calls promise.
use Rattle.std.specs.Prelude.{ℕ, suc, ◌≡◌, ◌≢◌, ◌⊎◌, ◌+◌, ◌^◌, ◌<◌, ◌≤◌, Bool, true, false, not, ◌&&◌, ◌==◌, is_none, get_or, List, [], ◌∷◌, ◌++◌, length, take, drop, All, slice_get, Option, Some, None, Result, Ok, Err, IsTrue}
use Rattle.desk_base.specs.Streams.{risen}
use Rattle.law_journal.specs.Disks.{Outlook, Only, LeavesOnly}
use Rattle.law_journal.specs.Grammar.{Step, ends, holds, breaks, Listing, magic, is_size, records_size, gate_number, gate_in, step_at, step_list, list_from, with_first, magic_fault, list_of, records_of, with_more}
use Rattle.desk_base.specs.declared.load_fault.LoadFault.{LoadFault}
use Rattle.desk_base.specs.declared.load_fault.LoadFault.TheVariants.{Failed, Damaged, Memory}
use Rattle.law_journal.specs.declared.step.Found.{Found}
use Rattle.law_journal.specs.declared.step.Found.TheVariants.{End, Entry, Broken}

-- payloads in front of a list
abbrev pub with_front : List (List ℕ) → Listing → Listing
with_front [] listing = listing
with_front (payload ∷ payloads) listing = with_first payload (with_front payloads listing)

-- bytes that are whole records of these payloads: from place 8 on, whatever gate and bytes stand behind them, the
-- list has these payloads in front, and goes on at that gate
abbrev pub AreRecords : List (List ℕ) → List ℕ → Type 0
AreRecords payloads bytes = (gate : ℕ) (behind : List ℕ) (steps : ℕ) →
    list_from (length payloads + suc steps) 8 (bytes ++ gate ∷ behind)
    ≡ with_front payloads (step_list (8 + length bytes) (step_at (8 + length bytes) (gate ∷ behind)) (list_from steps))

-- the file is the magic, whole records, and a gate at this place, with what follows it
pub record IsJournal (file : List ℕ) (place : ℕ) (behind : List ℕ) : Type 0 where
  pub payloads : List (List ℕ)
  pub bytes : List ℕ
  pub are_records : AreRecords payloads bytes
  pub no_more : length payloads ≤ length bytes
  pub size : length bytes ≡ records_size payloads
  pub file_is : file ≡ magic ++ bytes ++ behind
  pub at_place : place ≡ 8 + length bytes

-- the file ends with a closed gate at this place, and all of it is on the disk
pub record Rests (o : Outlook) (gate : ℕ) : Type 0 where
  pub shut : ℕ
  pub is_shut : shut ≢ 1
  pub journal : IsJournal o.seen gate (shut ∷ [])
  pub durable : Only o.seen o.may_leave

-- what holds of a journal that is ready: it has a list of payloads of 1 to 16,777,216 bytes each, which begins at the
-- gate at place 8 and ends at this one, and a crash leaves the file as it is
pub record HasList (o : Outlook) (gate : ℕ) : Type 0 where
  pub bound : gate + 1 < 2 ^ 63
  pub payloads : List (List ℕ)
  pub is_list : list_of o.seen ≡ Ok payloads
  pub sizes : All (λ payload. IsTrue (is_size (length payload))) payloads
  pub size : gate ≡ 8 + records_size payloads
  pub first : gate_number 8 payloads 8 ≡ Some 0
  pub end : gate_number 8 payloads gate ≡ Some (length payloads)
  pub durable : Only o.seen o.may_leave

-- gates keep their places and their numbers
abbrev pub KeepsGates : Listing → Listing → Type 0
KeepsGates old new = (place n : ℕ) → gate_in old place ≡ Some n → gate_in new place ≡ Some n

-- bytes are the frames of payloads of 1 to 16,777,216 bytes each: behind an open gate they are the records of these
-- payloads, at least one, and a closed gate
pub record AreFrames (payloads : List (List ℕ)) (framed : List ℕ) : Type 0 where
  pub sizes : All (λ payload. IsTrue (is_size (length payload))) payloads
  pub behind_gate : 1 ∷ framed ≡ records_of payloads ++ 0 ∷ []

-- bytes are the frames of some payloads
abbrev pub IsFramed : List ℕ → Type 0
IsFramed framed = (payloads : List (List ℕ)) × AreFrames payloads framed

-- a file stands for the list of another, with all of these payloads behind it or with none
abbrev pub IsBeforeOrAfter : List ℕ → List (List ℕ) → List ℕ → Type 0
IsBeforeOrAfter old payloads file = (list_of file ≡ list_of old) ⊎ (list_of file ≡ with_more payloads (list_of old))

-- a file is one that a crash could leave before the call, or stands for the list that the disk had
abbrev pub IsOldOrSame : Outlook → List ℕ → Type 0
IsOldOrSame old file = old.may_leave file ⊎ (list_of file ≡ list_of old.seen)

-- where a fault of the disk is told, one was counted; else the count is as it was
abbrev pub HasLoadCause : {T : Type 0} → ℕ → ℕ → Result T LoadFault → Type 0
HasLoadCause before now (Ok value) = now ≡ before
HasLoadCause before now (Err Failed) = now ≡ risen before
HasLoadCause before now (Err (Damaged place byte)) = now ≡ before
HasLoadCause before now (Err Memory) = now ≡ before

-- what is found at a gate, of a step
abbrev pub found_of : Step → Found
found_of ends = End
found_of (holds payload rest) = Entry (length payload)
found_of (breaks damage) = Broken damage.place damage.byte

-- damage is told exactly as the list has it
abbrev pub Tells : Listing → LoadFault → Type 0
Tells listing Failed = Unit {0}
Tells listing (Damaged place byte) = listing ≡ Err (record { place = place; byte = byte })
Tells listing Memory = Unit {0}

-- a payload that is found, and the next gate, are in the file
abbrev pub FitsIn : ℕ → ℕ → Found → Type 0
FitsIn place len End = Unit {0}
FitsIn place len (Entry size) = place + 5 + size < len
FitsIn place len (Broken at byte) = Unit {0}

-- the file's list ends at this place, with a closed gate
pub record HasEnd (file : List ℕ) (gate : ℕ) : Type 0 where
  pub shut : ℕ
  pub behind : List ℕ
  pub is_shut : shut ≢ 1
  pub journal : IsJournal file gate (shut ∷ behind)

-- a file of at most nine bytes
abbrev pub IsShort : List ℕ → Type 0
IsShort file = length file ≤ 9

-- a file stands for the list of another
abbrev pub IsSameList : List ℕ → List ℕ → Type 0
IsSameList old file = list_of file ≡ list_of old

-- the bytes are the magic and a closed gate, and nothing else
abbrev pub is_started : List ℕ → Bool
is_started bytes = (length bytes == 9) && (is_none (magic_fault 0 magic bytes) && not (get_or bytes 8 0 == 1))

-- what a reading tells that puts a payload into a buffer: the bytes that the buffer has then, and the place of the next gate
abbrev pub read_into : List ℕ → Result (Option ℕ) LoadFault → Result (Option (List ℕ × ℕ)) LoadFault
read_into buffer (Ok None) = Ok None
read_into buffer (Ok (Some next)) = Ok (Some (buffer, next))
read_into buffer (Err fault) = Err fault

-- bytes of which nothing is said: a reading that is refused may leave any in the buffer that it was lent
abbrev pub MayBeAny : List ℕ → Type 0
MayBeAny bytes = Unit {0}

-- what is read at a gate is what stands there
abbrev pub GivesEntry : ℕ → Step → Result (Option (List ℕ × ℕ)) LoadFault → Type 0
GivesEntry place step (Ok None) = step ≡ ends
GivesEntry place step (Ok (Some entry)) = ((rest : List ℕ) × (step ≡ holds entry.0 rest))
    × (entry.1 ≡ place + 5 + length entry.0)
GivesEntry place step (Err Failed) = Unit {0}
GivesEntry place step (Err (Damaged at byte)) = step ≡ breaks (record { place = at; byte = byte })
GivesEntry place step (Err Memory) = Unit {0}

-- what is read at the gate behind so many payloads: the next payload and the gate behind it, or the end of the list
abbrev pub GivesNth : List (List ℕ) → ℕ → Result (Option (List ℕ × ℕ)) LoadFault → Type 0
GivesNth payloads n (Ok None) = n ≡ length payloads
GivesNth payloads n (Ok (Some entry)) = (slice_get payloads n ≡ Some entry.0)
    × (gate_number 8 payloads entry.1 ≡ Some (n + 1))
GivesNth payloads n (Err Failed) = Unit {0}
GivesNth payloads n (Err (Damaged place byte)) = ⊥
GivesNth payloads n (Err Memory) = Unit {0}

-- what is read at a gate of a file's list
abbrev pub GivesListed : List ℕ → ℕ → Result (Option (List ℕ × ℕ)) LoadFault → Type 0
GivesListed file place result = (payloads : List (List ℕ)) (n : ℕ) → list_of file ≡ Ok payloads
    → gate_number 8 payloads place ≡ Some n → GivesNth payloads n result

-- the next gate is behind the one at which a payload is read
abbrev pub IsLater : ℕ → Option ℕ → Type 0
IsLater place None = Unit {0}
IsLater place (Some next) = place < next

-- a refusal that is no damage
abbrev pub IsNoDamage : LoadFault → Type 0
IsNoDamage Failed = Unit {0}
IsNoDamage (Damaged place byte) = ⊥
IsNoDamage Memory = Unit {0}

-- a journal stays ready after an answer or for want of memory
abbrev pub stays_ready : {T : Type 0} → Result T LoadFault → Bool
stays_ready (Ok value) = true
stays_ready (Err Failed) = false
stays_ready (Err (Damaged place byte)) = false
stays_ready (Err Memory) = true

-- what a disk that tells shows of a journal: the list up to its closed gate, and its damage
abbrev pub IsListed : Outlook → ℕ → Type 0
IsListed o gate = o.tells → HasList o gate

abbrev pub TellsDamage : Outlook → LoadFault → Type 0
TellsDamage o fault = o.tells → Tells (list_of o.seen) fault

-- what is found at a place, read as an entry, and read as its payload
abbrev pub FindsAt : Outlook → ℕ → Found → Type 0
FindsAt o place found = o.tells → found ≡ found_of (step_at place (drop place o.seen))

abbrev pub ReadsEntry : Outlook → ℕ → Result (Option (List ℕ × ℕ)) LoadFault → Type 0
ReadsEntry o place result = o.tells → GivesEntry place (step_at place (drop place o.seen)) result

abbrev pub ReadsBytes : Outlook → ℕ → ℕ → List ℕ → Type 0
ReadsBytes o place size payload = o.tells → payload ≡ take size (drop place o.seen)

-- the list stays; its gates stay
abbrev pub ListStays : Outlook → Outlook → Type 0
ListStays old new = old.tells → IsSameList old.seen new.seen

abbrev pub GatesStay : Outlook → Outlook → Type 0
GatesStay old new = old.tells → KeepsGates (list_of old.seen) (list_of new.seen)

-- a crash at any moment leaves the list; a file that could be left before, or the list
abbrev pub LeavesSame : Outlook → Outlook → Type 0
LeavesSame old new = old.tells → LeavesOnly (IsSameList old.seen) old new

abbrev pub LeavesOldOrSame : Outlook → Outlook → Type 0
LeavesOldOrSame old new = old.tells → LeavesOnly (IsOldOrSame old) old new

-- the payloads of frames are added; all of them or none; a crash at any moment leaves the list with all of them, or with
-- none
abbrev pub AddsFrames : List ℕ → Outlook → Outlook → Type 0
AddsFrames framed old new = (payloads : List (List ℕ)) → AreFrames payloads framed → old.tells
    → list_of new.seen ≡ with_more payloads (list_of old.seen)

abbrev pub MayAddFrames : List ℕ → Outlook → Outlook → Type 0
MayAddFrames framed old new = (payloads : List (List ℕ)) → AreFrames payloads framed → old.tells
    → IsBeforeOrAfter old.seen payloads new.seen

abbrev pub LeavesFramesOrNot : List ℕ → Outlook → Outlook → Type 0
LeavesFramesOrNot framed old new = (payloads : List (List ℕ)) → AreFrames payloads framed → old.tells
    → LeavesOnly (IsBeforeOrAfter old.seen payloads) old new
