-- None of those passed is of the work, so the rest decides.
use Rattle.std.proofs.Common.{◌≡◌, drop}
use Rattle.law_refs.specs.Index as spec
use Rattle.law_refs.proofs.revising.first_day.Given as goal

abbrev pub invariant-loop-row : goal.invariant-loop-row
invariant-loop-row l = spec.first_day l.work (drop l.row-index l.rows) ≡ spec.first_day l.work l.rows
