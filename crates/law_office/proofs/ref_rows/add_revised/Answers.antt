use Rattle.std.proofs.Common.{◌∙◌, ap, ◌++◌, Some}
use Rattle.std.proofs.lemmas.Result.{on_ok_weaker}
use Rattle.act_tree.specs.Seen.{tree_view}
use Rattle.law_register.specs.Answer.Replay.{VersionValue}
use Rattle.law_register.specs.declared.law.act.Act.{Act}
use Rattle.law_register.specs.declared.register.known.Known.{Known}
use Rattle.version_cache.specs.Seen.{revision_view, work_revision_view, work_view}
use Rattle.version_cache.specs.Rows.{rows_view}
use Rattle.version_cache.specs.Works.{WorkRevisionValue}
use Rattle.law_office.specs.RefRows.{rows_handed}
use Rattle.law_office.proofs.RefRows.{handed_on_day, revised_rows, revision_rows, some_force}
use Rattle.law_office.proofs.ref_rows.add_revised.Goals as goal

pub returns-in-Some : goal.returns-in-Some
returns-in-Some c held right made =
    let work = c.args.work.now in
    let kept = work_view c.args.kept.now in
    let revision = work_revision_view c.args.revision.now in
    let day = c.args.touched in
    let text = ap (λ (v : VersionValue). v.tree) (c.on_after-version.ensures.replay held right) in
    let said = ap (λ (k : Known). k.act) (c.known-known.ensures ∙ ap (λ (r : WorkRevisionValue). r.known) made) in
    on_ok_weaker c.add_rows.result
    (λ done.
    revised_rows work held day c.in_ok-row.row (rows_view c.rows.result.now) c.args.found.now c.push.new.self c.add_rows.new.found
    (c.in_ok-row.ensures ∙ handed_on_day work c.known-known.result.now held day (tree_view c.on_after-version.result.now.tree) text said)
    (c.rows.ensures ∙ revision_rows kept held revision day (revision_view c.in-Some.force.now) right made c.in-Some.ensures)
    c.in_ok-push.ensures.ok
    (done ∙ ap (λ (a : Act). c.push.new.self ++ rows_handed work a.day (Some day) (rows_view c.rows.result.now)) said))
    c.add_rows.ensures

pub returns-in-None : goal.returns-in-None
returns-in-None c held right made =
    absurd (some_force (work_view c.args.kept.now) held (work_revision_view c.args.revision.now) c.args.touched made c.in-None.ensures)
