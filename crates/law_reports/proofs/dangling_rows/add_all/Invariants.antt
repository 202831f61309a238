-- What is written, with the rows of those that are left, is what was written before and the rows of all.
use Rattle.std.proofs.Common.{◌≡◌, ◌++◌, map, drop}
use Rattle.law_reports.specs.Dangling.{dangling_row}
use Rattle.law_reports.specs.Tables.{IsOpen, rows_text, written}
use Rattle.law_reports.proofs.dangling_rows.add_all.Given as goal

abbrev pub invariant-loop-one : goal.invariant-loop-one
invariant-loop-one l = record {
  ready : IsOpen l.table;
  rows : written l.table ++ rows_text (map dangling_row (drop l.one-index l.found))
      ≡ written l.initial.table ++ rows_text (map dangling_row l.found);
}
