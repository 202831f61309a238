-- The copies so far, and the rows to come.
use Rattle.std.proofs.Common.{◌≡◌, ◌++◌, drop}
use Rattle.version_cache.specs.Rows.{rows_view}
use Rattle.version_cache.proofs.sharing.share_rows.Given as goal

abbrev pub invariant-loop-row : goal.invariant-loop-row
invariant-loop-row l = rows_view l.copies.items ++ rows_view (drop l.row-index l.rows) ≡ rows_view l.rows
