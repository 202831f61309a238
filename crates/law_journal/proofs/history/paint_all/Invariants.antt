use Rattle.std.proofs.Common.{◌≡◌, length}
use Rattle.law_journal.specs.MemoryDisks.{painted_all}
use Rattle.law_journal.proofs.history.paint_all.Given as goal

-- what is left turns the bytes so far into what all changes turn them into
abbrev pub invariant-loop-left : goal.invariant-loop-left
invariant-loop-left l = painted_all l.pick l.left l.bytes ≡ painted_all l.pick l.fn.changes l.fn.bytes

abbrev pub decreases-loop-left : goal.decreases-loop-left
decreases-loop-left l = length l.left
