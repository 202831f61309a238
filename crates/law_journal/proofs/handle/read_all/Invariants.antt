use Rattle.std.proofs.Common.{◌≡◌, ◌-◌, ◌≤◌, true, length}
use Rattle.law_journal.proofs.handle.read_all.Given as goal

-- what is filled is within the buffer, and the file may be asked
abbrev pub invariant-loop-filled : goal.invariant-loop-filled
invariant-loop-filled g l = (l.filled ≤ length l.into) × (length l.into ≡ length l.initial.into) × (g.F.SystemFile.is_open l.file ≡ true)

abbrev pub decreases-loop-filled : goal.decreases-loop-filled
decreases-loop-filled g l = length l.initial.into - l.filled
