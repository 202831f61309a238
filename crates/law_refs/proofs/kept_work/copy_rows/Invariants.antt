-- The copies so far, and the rows that are left.
use Rattle.std.proofs.Common.{◌≡◌, ◌++◌, drop}
use Rattle.law_refs.proofs.kept_work.copy_rows.Given as goal

abbrev pub invariant-loop-row : goal.invariant-loop-row
invariant-loop-row l = l.copied ++ drop l.row-index l.rows ≡ l.rows
