-- How an export ended is what a run of it leaves.
use Rattle.lawdesk.proofs.Exports.{ends_cut, ends_unopened, ends_wanting, exported}
use Rattle.lawdesk.proofs.exporting.export_above.Goals as goal

pub returns-in-Ok : goal.returns-in-Ok
returns-in-Ok g c =
    exported g.K.Keeper.holding g.K.Keeper.faults g.W.Sink.written g.W.Sink.faults c.args.keeper.now c.export.new.keeper
    c.args.sink.now c.export.new.sink c.args.from c.in-Ok.ensures.same c.in-Ok.ensures.crash _
    c.in-Ok.ensures.exports c.in-Ok.ensures.sink_cause c.in-Ok.ensures.keeper_cause

pub returns-in-Err-Open : goal.returns-in-Err-Open
returns-in-Err-Open g c =
    ends_unopened g.K.Keeper.holding g.K.Keeper.faults g.W.Sink.written g.W.Sink.faults c.args.keeper.now c.export.new.keeper
    c.args.from c.in-Err-Open.ensures.same c.in-Err-Open.ensures.crash c.args.sink.now c.export.new.sink c.tell_unopened.new.sink
    c.in-Err-Open.field-0 c.in-Err-Open.fault c.tell_unopened.result c.in-Err-Open.field-0-is
    c.in-Err-Open.ensures.exports c.in-Err-Open.ensures.unwritten c.in-Err-Open.ensures.keeper_cause c.tell_unopened.ensures

pub returns-in-Err-WriteFault : goal.returns-in-Err-WriteFault
returns-in-Err-WriteFault g c =
    ends_cut g.K.Keeper.holding g.K.Keeper.faults g.W.Sink.written g.W.Sink.faults c.args.keeper.now c.export.new.keeper
    c.args.sink.now c.export.new.sink c.args.from c.in-Err-WriteFault.ensures.same c.in-Err-WriteFault.ensures.crash
    c.in-Err-WriteFault.field-0 c.in-Err-WriteFault.field-0-is
    c.in-Err-WriteFault.ensures.exports c.in-Err-WriteFault.ensures.sink_cause c.in-Err-WriteFault.ensures.keeper_cause

pub returns-in-Err-Memory : goal.returns-in-Err-Memory
returns-in-Err-Memory g c =
    ends_wanting g.K.Keeper.holding g.K.Keeper.faults g.W.Sink.written g.W.Sink.faults c.args.keeper.now c.export.new.keeper
    c.args.sink.now c.export.new.sink c.args.from c.in-Err-Memory.ensures.same c.in-Err-Memory.ensures.crash
    c.in-Err-Memory.field-0 c.in-Err-Memory.field-0-is
    c.in-Err-Memory.ensures.exports c.in-Err-Memory.ensures.sink_cause c.in-Err-Memory.ensures.keeper_cause
