-- The names stand first, then the rows of the first text, and then those of what the second alone has.
use Rattle.std.proofs.Common.{◌≡◌, ◌∙◌, sym, ap, subst, ℕ, List, ◌++◌, not, map, filter, append_assoc}
use Rattle.std.specs.Result.{IfOk}
use Rattle.act_tree.specs.Changes.{is_in}
use Rattle.act_tree.specs.Seen.{tree_view}
use Rattle.act_tree.specs.Wids.{all_wids}
use Rattle.law_reports.specs.Correspondences.{correspondence_names, row_of_both, row_of_second, table_between}
use Rattle.law_reports.specs.Tables.{row, rows_text, written}
use Rattle.law_reports.proofs.Rows.{rows_both}
use Rattle.law_reports.proofs.correspondences.table_between.Goals as goal

pub returns : goal.returns
returns c =
    let first = tree_view c.args.first.now in
    let second = tree_view c.args.second.now in
    let both : List (List (List ℕ)) = map (row_of_both first second) (all_wids first.body) in
    let alone : List (List (List ℕ)) = map (row_of_second second) (filter (λ wid. not (is_in wid first.body)) (all_wids second.body)) in
    let names : List ℕ = row correspondence_names in
    let whole : written c.add_second.new.table ≡ table_between first second =
    c.in_ok-add_second.ensures.rows
    ∙ ap (λ t. t ++ rows_text alone) (c.in_ok-add_first.ensures.rows ∙ ap (λ t. t ++ rows_text both) (c.in_ok-add.ensures.rows ∙ ap (λ t. t ++ names) c.new-table.ensures.rows))
    ∙ append_assoc names (rows_text both) (rows_text alone)
    ∙ ap (λ t. names ++ t) (sym (rows_both both alone)) in
    subst (λ text. IfOk c.into_bytes.result (λ bytes. bytes.items ≡ text)) whole c.into_bytes.ensures
