use Rattle.std.proofs.Common.{rules, ◌∙◌, sym, ap, ◌+◌, ◌<◌, drop, length, ◌∷◌, ◌++◌, List}
use Rattle.std.proofs.lemmas.List.{append_assoc, drop_more}
use Rattle.law_refs.specs.declared.ref_row.RefRow.{RefRow}
use Rattle.version_cache.specs.declared.row.Row.{Row}
use Rattle.version_cache.specs.Rows.{row_view, rows_view}
use Rattle.law_office.specs.RefRows.{rows_handed}
use Rattle.law_office.proofs.RefRows.{handed_more}
use Rattle.law_office.proofs.ref_rows.add_rows.Goals as goal

pub loop-row-preserved : goal.loop-row-preserved
loop-row-preserved c =
    let work = c.args.work.now in
    let day = c.args.known.now.act.day in
    let after = c.args.after.now in
    let rows : List Row = c.args.rows.now in
    let i = c.loop-row.row-index in
    let row : Row = c.row-item.result in
    let within : i < length rows = search rules in
    let rest : List Row = drop (i + 1) rows in
    ap (λ (x : List RefRow). x ++ rows_handed work day after (rows_view rest)) c.in_ok-add_row.ensures
    ∙ append_assoc c.loop-row.found _ (rows_handed work day after (rows_view rest))
    ∙ ap (λ (x : List RefRow). c.loop-row.found ++ x) (handed_more work day after (row_view row) (rows_view rest))
    ∙ ap (λ (rs : List Row). c.loop-row.found ++ rows_handed work day after (rows_view rs)) (ap (λ (r : Row). r ∷ rest) c.row-item.is ∙ sym (drop_more rows i row within))
    ∙ c.loop-row.invariant
