-- Those counted, and those to come.
use Rattle.std.proofs.Common.{◌≡◌, ◌+◌, ◌≤◌, drop, length}
use Rattle.version_cache.specs.Rows.{rows_view}
use Rattle.version_cache.specs.Tables.{rows_before}
use Rattle.version_cache.proofs.revising.count_rows_before.Given as goal

abbrev pub invariant-loop-row : goal.invariant-loop-row
invariant-loop-row l = record {
  count : l.count + length (rows_before l.touched (rows_view (drop l.row-index l.rows))) ≡ length (rows_before l.touched (rows_view l.rows));
  most : l.count ≤ l.row-index;
}
