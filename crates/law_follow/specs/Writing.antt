-- What the writing of a frame leaves, and why one is not written.
use Rattle.std.specs.Prelude.{ℕ, ◌≡◌, List, Result, Ok, Err}
use Rattle.desk_base.specs.Streams.{risen}
use Rattle.law_follow.specs.Frames.{frame_of}
use Rattle.law_follow.specs.declared.put_fault.PutFault.{PutFault}
use Rattle.law_follow.specs.declared.put_fault.PutFault.TheVariants as fault

-- a fault of writing is one more in the count of the sink's faults; else the count is as it was
abbrev pub HasPutCause : {T : Type 0} → ℕ → ℕ → Result T PutFault → Type 0
HasPutCause before now (Ok value) = now ≡ before
HasPutCause before now (Err fault.WriteFault) = now ≡ risen before
HasPutCause before now (Err fault.Memory) = now ≡ before

-- the buffer of the payload has the frame then, or for want of memory the payload still
abbrev pub buffer_after : ℕ → List ℕ → Result Unit PutFault → List ℕ
buffer_after number payload (Ok done) = frame_of number payload
buffer_after number payload (Err fault.WriteFault) = frame_of number payload
buffer_after number payload (Err fault.Memory) = payload

-- for want of memory the sink is as it was
abbrev pub LeavesSink : {W : Type 0} → W → W → Result Unit PutFault → Type 0
LeavesSink old new (Ok done) = Unit {0}
LeavesSink old new (Err fault.WriteFault) = Unit {0}
LeavesSink old new (Err fault.Memory) = new ≡ old
