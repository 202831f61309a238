-- Those to come decide.
use Rattle.std.proofs.Common.{◌≡◌, drop}
use Rattle.version_cache.specs.Rows.{rows_view}
use Rattle.version_cache.specs.Tables.{rows_until}
use Rattle.version_cache.proofs.calendar.rows_are_counted.Given as goal

abbrev pub invariant-loop-row : goal.invariant-loop-row
invariant-loop-row l = rows_until 0 (rows_view (drop l.row-index l.rows)) ≡ rows_until 0 (rows_view l.rows)
