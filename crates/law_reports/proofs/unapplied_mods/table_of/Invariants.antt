-- What is written, with the rows of the works that are left, is the names and the rows of all.
use Rattle.std.proofs.Common.{◌≡◌, ◌++◌, drop}
use Rattle.law_reports.specs.Tables.{IsOpen, row, rows_text, written}
use Rattle.law_reports.specs.Unapplied.{rows_of_all, unapplied_names}
use Rattle.law_reports.proofs.unapplied_mods.table_of.Given as goal

abbrev pub invariant-loop-work : goal.invariant-loop-work
invariant-loop-work g l = record {
  ready : IsOpen l.table;
  rows : written l.table ++ rows_text (rows_of_all l.register.entries l.day (drop l.work-index l.works))
      ≡ row unapplied_names ++ rows_text (rows_of_all l.register.entries l.day l.works);
}
