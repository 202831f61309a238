-- What is written, with the rows of the events that are left, is the names and the rows of all.
use Rattle.std.proofs.Common.{◌≡◌, ◌++◌, map}
use Rattle.law_reports.specs.Lifecycles.{event_row, events_of, lifecycle_names}
use Rattle.law_reports.specs.Tables.{IsOpen, row, rows_text, written}
use Rattle.law_reports.proofs.lifecycles.lifecycle_of.Given as goal

abbrev pub invariant-loop-one : goal.invariant-loop-one
invariant-loop-one l = record {
  ready : IsOpen l.table;
  rows : written l.table ++ rows_text (map event_row l.one-iterator)
      ≡ row lifecycle_names ++ rows_text (map event_row (events_of l.known));
}
