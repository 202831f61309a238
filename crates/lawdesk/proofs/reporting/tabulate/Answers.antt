-- What is told of a report is what a run leaves.
use Rattle.lawdesk.specs.Reporting.{IsFineReport, IsReportDone, IsReported}
use Rattle.lawdesk.proofs.Kepts.{ran_kept, report_done, report_fine}
use Rattle.lawdesk.proofs.reporting.tabulate.Goals as goal

pub returns : goal.returns
returns g c =
    let kept = c.report_kept-report.ensures in
    ran_kept IsReportDone IsFineReport report_done report_fine g.K.Keeper.holding g.K.Keeper.faults g.W.Sink.written g.W.Sink.faults
    (IsReported c.args.job.now) c.args.keeper.now c.report_kept-report.new.keeper c.args.sink.now c.tell_report.new.sink kept.same
    kept.crash c.report_kept-report.result c.tell_report.result kept.told kept.cause kept.stays c.tell_report.ensures
