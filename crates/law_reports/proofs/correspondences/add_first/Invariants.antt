-- What is written, with the rows of the wIds that are left, is what was written before and the rows of all.
use Rattle.std.proofs.Common.{◌≡◌, ◌++◌, map, drop}
use Rattle.act_tree.specs.Seen.{tree_view}
use Rattle.act_tree.specs.Wids.{all_wids}
use Rattle.law_reports.specs.Correspondences.{row_of_both}
use Rattle.law_reports.specs.Tables.{IsOpen, rows_text, written}
use Rattle.law_reports.proofs.correspondences.add_first.Given as goal

abbrev pub invariant-loop-wid : goal.invariant-loop-wid
invariant-loop-wid l = record {
  ready : IsOpen l.table;
  rows : written l.table ++ rows_text (map (row_of_both (tree_view l.first) (tree_view l.second)) (drop l.wid-index l.wid-items))
      ≡ written l.initial.table ++ rows_text (map (row_of_both (tree_view l.first) (tree_view l.second)) (all_wids (tree_view l.first).body));
}
