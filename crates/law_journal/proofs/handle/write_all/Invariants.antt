use Rattle.std.proofs.Common.{◌≡◌, ◌-◌, ◌≤◌, true, length}
use Rattle.law_journal.proofs.handle.write_all.Given as goal

-- what is written is of the bytes, and the file may be asked
abbrev pub invariant-loop-written : goal.invariant-loop-written
invariant-loop-written g l = (l.written ≤ length l.bytes) × (g.F.SystemFile.is_open l.file ≡ true)

abbrev pub decreases-loop-written : goal.decreases-loop-written
decreases-loop-written g l = length l.bytes - l.written
