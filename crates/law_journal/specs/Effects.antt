-- What is held after a call of a disk in memory that failed, and did some of it, or all.
use Rattle.std.specs.Prelude.{ℕ, ◌-◌, ◌==◌, min, max, List, ◌++◌, length, take, drop, if◌then◌else◌}
use Rattle.law_journal.specs.MemoryDisks.{HeldBytes, after_write, after_cut, after_sync}
use Rattle.law_journal.specs.declared.effect.Effect.{Effect}
use Rattle.law_journal.specs.declared.effect.Effect.TheVariants.{Nothing, Front, Whole}

-- how many bytes from a place on there are for a buffer
abbrev pub given_count : ℕ → List ℕ → List ℕ → ℕ
given_count place bytes into = min (length into) (length bytes - place)

-- a buffer that was filled with them
abbrev pub filled : ℕ → List ℕ → List ℕ → List ℕ
filled place bytes into = take (given_count place bytes into) (drop place bytes) ++ drop (given_count place bytes into) into

-- the buffer after a read that failed
abbrev pub read_by : Effect → ℕ → List ℕ → List ℕ → List ℕ
read_by Nothing place bytes into = into
read_by (Front most) place bytes into = filled place bytes (take most into) ++ drop most into
read_by Whole place bytes into = filled place bytes into

-- after a step, where one more change may be made
abbrev pub where_left : (HeldBytes → HeldBytes) → HeldBytes → HeldBytes
where_left step h = if h.left == 0 then h else step h

-- so many of the bytes at most are written, as far as there is room
abbrev pub front_written : ℕ → ℕ → List ℕ → HeldBytes → HeldBytes
front_written most place new h = where_left (after_write place (take (min most h.room) new)) h

abbrev pub cut_where_left : ℕ → HeldBytes → HeldBytes
cut_where_left len h = where_left (after_cut len) h

-- after a write that failed
abbrev pub written_by : Effect → ℕ → List ℕ → HeldBytes → HeldBytes
written_by Nothing place new h = h
written_by (Front most) place new h = front_written most place new h
written_by Whole place new h = front_written (length new) place new h

-- after a cut to a length that failed: so many bytes at most are cut off
abbrev pub cut_by : Effect → ℕ → HeldBytes → HeldBytes
cut_by Nothing len h = h
cut_by (Front most) len h = cut_where_left (max len (length h.bytes - most)) h
cut_by Whole len h = cut_where_left len h

-- after a sync that failed
abbrev pub synced_by : Effect → HeldBytes → HeldBytes
synced_by Nothing h = h
synced_by (Front most) h = h
synced_by Whole h = where_left after_sync h
