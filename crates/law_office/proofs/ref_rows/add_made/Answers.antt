use Rattle.std.proofs.Common.{◌∙◌, ap, ◌++◌, None}
use Rattle.std.proofs.lemmas.Result.{on_ok_weaker}
use Rattle.act_tree.specs.Seen.{tree_view}
use Rattle.law_register.specs.Answer.Replay.{VersionValue, as_enacted}
use Rattle.law_register.specs.declared.law.act.Act.{Act}
use Rattle.law_register.specs.declared.register.known.Known.{Known}
use Rattle.version_cache.specs.Rows.{rows_view}
use Rattle.version_cache.specs.Tables.{TableValue}
use Rattle.version_cache.specs.Works.{WorkValue}
use Rattle.law_office.specs.RefRows.{rows_handed}
use Rattle.law_office.proofs.RefRows.{handed_as, made_rows}
use Rattle.law_office.proofs.ref_rows.add_made.Goals as goal

pub returns : goal.returns
returns c held is =
    let work = c.args.work.now in
    let text = c.enacted.ensures.version ∙ ap (λ (w : WorkValue). w.force.enacted) is in
    let said = ap (λ (k : Known). k.act) (c.known-known.ensures ∙ ap (λ (w : WorkValue). w.known) is) in
    let rows = c.rows.ensures ∙ ap (λ (t : TableValue). t.rows) (c.table-table.ensures ∙ ap (λ (w : WorkValue). w.force) is) in
    on_ok_weaker c.add_rows.result
    (λ done.
    made_rows work held c.in_ok-row_of.field-0 (rows_view c.rows.result.now) c.args.found.now c.push.new.self c.add_rows.new.found
    (c.in_ok-row_of.ensures ∙ handed_as work c.known-known.result.now held None (tree_view c.enacted.result.now.tree) (as_enacted held.act).tree (ap (λ (v : VersionValue). v.tree) text) said)
    rows c.in_ok-push.ensures.ok
    (done ∙ ap (λ (a : Act). c.push.new.self ++ rows_handed work a.day None (rows_view c.rows.result.now)) said))
    c.add_rows.ensures
