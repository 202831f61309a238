-- What is written, with the rows of those that are left, is what was written before and the rows of all.
use Rattle.std.proofs.Common.{◌≡◌, ◌++◌, map, drop}
use Rattle.law_reports.specs.Tables.{IsOpen, rows_text, written}
use Rattle.law_reports.specs.Unapplied.{unapplied_row}
use Rattle.law_reports.proofs.unapplied_mods.add_all.Given as goal

abbrev pub invariant-loop-one : goal.invariant-loop-one
invariant-loop-one l = record {
  ready : IsOpen l.table;
  rows : written l.table ++ rows_text (map (unapplied_row l.work) (drop l.one-index l.unapplied))
      ≡ written l.initial.table ++ rows_text (map (unapplied_row l.work) l.unapplied);
}
