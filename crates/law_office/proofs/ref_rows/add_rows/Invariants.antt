-- What is added so far, and what is handed in of the rows that are left.
use Rattle.std.proofs.Common.{◌≡◌, ◌++◌, drop}
use Rattle.version_cache.specs.Rows.{rows_view}
use Rattle.law_office.specs.RefRows as spec
use Rattle.law_office.proofs.ref_rows.add_rows.Given as goal

abbrev pub invariant-loop-row : goal.invariant-loop-row
invariant-loop-row l =
    l.found ++ spec.rows_handed l.work l.known.act.day l.after (rows_view (drop l.row-index l.rows))
    ≡ l.initial.found ++ spec.rows_handed l.work l.known.act.day l.after (rows_view l.rows)
