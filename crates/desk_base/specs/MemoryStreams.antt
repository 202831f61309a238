-- Streams in memory, whose calls fail where they are told to.
use Rattle.std.specs.Prelude.{ℕ, ◌+◌, ◌-◌, ◌^◌, ◌==◌, ◌||◌, Bool, List, [], ◌++◌, length, take, min, nat_lt, if◌then◌else◌}
use Rattle.std.specs.List.{list_any}

-- the calls of an object that are to fail, by their numbers from 1, and how many calls were made
pub record CallPlan : Type 0 where
  pub failing : List ℕ
  pub made : ℕ

-- the number of the call that comes next; the count stands still at its last value
abbrev pub next_call : CallPlan → ℕ
next_call plan = min (plan.made + 1) (2 ^ 64 - 1)

-- the call that comes next is to fail
abbrev pub next_fails : CallPlan → Bool
next_fails plan = list_any (λ number. number == next_call plan) plan.failing

-- the same plan, once that call was made
abbrev pub after_call : CallPlan → CallPlan
after_call plan = record { failing = plan.failing; made = next_call plan }

-- a source in memory: the bytes that are left, the most that a read gives, its plan, and its faults
pub record HeldSource : Type 0 where
  pub left : List ℕ
  pub piece : ℕ
  pub plan : CallPlan
  pub faults : ℕ

-- a source of these bytes, before the first read
abbrev pub new_source : List ℕ → ℕ → List ℕ → HeldSource
new_source bytes piece failing =
    record { left = bytes; piece = piece; plan = record { failing = failing; made = 0 }; faults = 0 }

-- how many bytes a read of so many gives, where it does not fail
abbrev pub given_count : HeldSource → ℕ → ℕ
given_count s wanted = min (min s.piece wanted) (length s.left)

-- a sink in memory: the bytes written, the most that it takes in all, its plan, and its faults
pub record HeldSink : Type 0 where
  pub written : List ℕ
  pub capacity : ℕ
  pub plan : CallPlan
  pub faults : ℕ

-- a sink of this capacity, before the first write
abbrev pub new_sink : ℕ → List ℕ → HeldSink
new_sink capacity failing =
    record { written = []; capacity = capacity; plan = record { failing = failing; made = 0 }; faults = 0 }

-- the write that comes next fails: it is listed, or the capacity would be passed
abbrev pub write_fails : HeldSink → List ℕ → Bool
write_fails s bytes = next_fails s.plan || nat_lt s.capacity (length s.written + length bytes)

-- what is written after the next write: nothing more where that call is listed, and else what fits of the bytes
abbrev pub written_after : HeldSink → List ℕ → List ℕ
written_after s bytes = if next_fails s.plan then s.written else s.written ++ take (s.capacity - length s.written) bytes
