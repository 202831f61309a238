-- What is told of a report is what a run leaves.
use Rattle.lawdesk.specs.Checking.{IsCheckDone, IsChecked, IsFineCheck}
use Rattle.lawdesk.proofs.Kepts.{check_done, check_fine, ran_kept}
use Rattle.lawdesk.proofs.checking.check.Goals as goal

pub returns : goal.returns
returns g c =
    let kept = c.report_kept-report.ensures in
    ran_kept IsCheckDone IsFineCheck check_done check_fine g.K.Keeper.holding g.K.Keeper.faults g.W.Sink.written g.W.Sink.faults
    IsChecked c.args.keeper.now c.report_kept-report.new.keeper c.args.sink.now c.tell_report.new.sink kept.same kept.crash
    c.report_kept-report.result c.tell_report.result kept.told kept.cause kept.stays c.tell_report.ensures
