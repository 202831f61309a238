-- A report is told, or why there is none.
use Rattle.std.proofs.Common.{refl, subst, sym}
use Rattle.dossier_text.specs.Views.{report_view}
use Rattle.lawdesk.specs.Telling.{TellsReport}
use Rattle.lawdesk.proofs.telling.tell_report.Goals as goal

pub returns-in-Ok : goal.returns-in-Ok
returns-in-Ok g c =
    subst (λ r. TellsReport g.W.Sink.written g.W.Sink.faults c.args.sink.now c.tell.new.sink c.tell.result r) (sym c.in-Ok.is)
    (c.tell.ensures.told (report_view c.in-Ok.report) refl)

pub returns-in-Err : goal.returns-in-Err
returns-in-Err g c =
    subst (λ r. TellsReport g.W.Sink.written g.W.Sink.faults c.args.sink.now c.tell_unopened.new.sink c.tell_unopened.result r)
    (sym c.in-Err.is) c.tell_unopened.ensures
