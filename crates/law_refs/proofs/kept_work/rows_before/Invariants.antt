-- The rows that stand before the day, and those that are left.
use Rattle.std.proofs.Common.{◌≡◌, ◌++◌, drop}
use Rattle.law_refs.specs.Rows as spec
use Rattle.law_refs.proofs.kept_work.rows_before.Given as goal

abbrev pub invariant-loop-row : goal.invariant-loop-row
invariant-loop-row l = l.before ++ spec.rows_before l.day (drop l.row-index l.rows) ≡ spec.rows_before l.day l.rows
