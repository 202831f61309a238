use Rattle.std.proofs.Common.{rules, ◌<◌, ◌++◌, length}
use Rattle.law_reports.specs.Tables.{row, rows_text, written}
use Rattle.law_reports.specs.Unapplied.{rows_of_all, unapplied_names}
use Rattle.law_reports.proofs.WorksInTurn.{rows_kept}
use Rattle.law_reports.proofs.unapplied_mods.table_of.Goals as goal

pub loop-work-preserved : goal.loop-work-preserved
loop-work-preserved g c =
    let entries = c.args.register.now.entries in
    let works = c.args.works.now in
    let within : c.loop-work.work-index < length works = search rules in
    record {
      ready = c.in_ok-add_work.ensures.ready;
      rows = rows_kept entries c.args.day works c.loop-work.work-index c.work-item.result (written c.loop-work.table) (written c.add_work.new.table)
          (row unapplied_names ++ rows_text (rows_of_all entries c.args.day works))
          within c.work-item.is c.in_ok-add_work.ensures.rows c.loop-work.invariant.rows;
    }
