-- What exporting writes of what a keeper has.
use Rattle.std.specs.Prelude.{ℕ, ◌≡◌, true, List, ◌++◌, Option, Some, None, Result, Ok, Err}
use Rattle.desk_base.specs.Streams.{AppendsFront, risen}
use Rattle.law_keeper.specs.Keepers.{Holding}
use Rattle.law_follow.specs.Frames.{Message}
use Rattle.law_follow.specs.Messages.{frames, messages_above}
use Rattle.law_follow.specs.Opening.{HasFirstCause, Refuses, opened_of}
use Rattle.law_follow.specs.Worlds.{is_register}
use Rattle.law_follow.specs.declared.exporting.ExportFault.{ExportFault}
use Rattle.law_follow.specs.declared.exporting.ExportFault.TheVariants as fault
use Rattle.law_follow.specs.declared.put_fault.PutFault.{PutFault}
use Rattle.law_follow.specs.declared.put_fault.PutFault.TheVariants as put

-- these bytes and no others are written, where a sink tells what is
abbrev pub IsPut : Option (List ℕ) → Option (List ℕ) → List ℕ → Type 0
IsPut None now bytes = Unit {0}
IsPut (Some before) now bytes = now ≡ Some (before ++ bytes)

-- of messages the first are written, each whole, and these are not
pub record ArePut (before now : Option (List ℕ)) (messages others : List Message) : Type 0 where
  pub first : List Message
  pub all : first ++ others ≡ messages
  pub written : IsPut before now (frames first)

-- messages are written: all of them; after a fault of the sink a front part of their bytes; for want of memory the first of
-- them, each whole
abbrev pub Puts : Option (List ℕ) → Option (List ℕ) → List Message → Result Unit PutFault → Type 0
Puts before now messages (Ok done) = IsPut before now (frames messages)
Puts before now messages (Err put.WriteFault) = AppendsFront before now (frames messages)
Puts before now messages (Err put.Memory) = (others : List Message) × ArePut before now messages others

-- how an export ends, once its payloads were written or not
abbrev pub exported : Result Unit PutFault → Result Unit ExportFault
exported (Ok done) = Ok tt
exported (Err put.WriteFault) = Err fault.WriteFault
exported (Err put.Memory) = Err fault.Memory

-- the payloads above a number of a register are written, which is the keeper's list, where it tells that
pub record Writes (from : ℕ) (h : Holding) (before now : Option (List ℕ)) (put : Result Unit PutFault) : Type 0 where
  pub payloads : List (List ℕ)
  pub found : h.tells → h.list ≡ Ok payloads
  pub legal : is_register payloads ≡ true
  pub written : Puts before now (messages_above from payloads) put

-- what is written of a keeper, before anything is done with it; nothing, where it is not opened
abbrev pub Exports : ℕ → Holding → Option (List ℕ) → Option (List ℕ) → Result Unit ExportFault → Type 0
Exports from h before now (Ok done) = Writes from h before now (Ok done)
Exports from h before now (Err (fault.Open why)) = h.tells → Refuses why (opened_of h.list)
Exports from h before now (Err fault.WriteFault) = Writes from h before now (Err put.WriteFault)
Exports from h before now (Err fault.Memory) = Writes from h before now (Err put.Memory)

-- an export that is refused leaves the sink as it is
abbrev pub LeavesSink : {W : Type 0} → W → W → Result Unit ExportFault → Type 0
LeavesSink old new (Ok done) = Unit {0}
LeavesSink old new (Err (fault.Open why)) = new ≡ old
LeavesSink old new (Err fault.WriteFault) = Unit {0}
LeavesSink old new (Err fault.Memory) = Unit {0}

-- a fault of writing is one more in the count of the sink's faults; else the count is as it was
abbrev pub HasSinkCause : ℕ → ℕ → Result Unit ExportFault → Type 0
HasSinkCause before now (Ok done) = now ≡ before
HasSinkCause before now (Err (fault.Open why)) = now ≡ before
HasSinkCause before now (Err fault.WriteFault) = now ≡ risen before
HasSinkCause before now (Err fault.Memory) = now ≡ before

-- the keeper fails at its opening alone
abbrev pub HasKeeperCause : Holding → ℕ → ℕ → Result Unit ExportFault → Type 0
HasKeeperCause h before now (Ok done) = now ≡ before
HasKeeperCause h before now (Err (fault.Open why)) = HasFirstCause h before now why
HasKeeperCause h before now (Err fault.WriteFault) = now ≡ before
HasKeeperCause h before now (Err fault.Memory) = now ≡ before
