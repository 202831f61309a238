-- A stream was served over the keeper that was opened, or none was.
use Rattle.std.proofs.Common.{refl}
use Rattle.lawdesk.proofs.Batches.{ran_served, ran_unopened}
use Rattle.lawdesk.proofs.batching.batch.Goals as goal

pub returns-in-Ok : goal.returns-in-Ok
returns-in-Ok g c =
    ran_served g.S.Source.left g.S.Source.faults g.W.Sink.written g.W.Sink.faults g.K.Keeper.holding g.K.Keeper.faults
    g.C.Clock.days _ _ _ _ _ _ _ _ _ _ _ c.open.new.keeper c.in-Ok.book.register.entries c.open.new.steps c.serve_book-served.result
    c.in-Ok.ensures.opened c.in-Ok.ensures.same c.in-Ok.ensures.crash c.in-Ok.ensures.cause c.in-Ok.ensures.steps_opened c.serve_book-served.ensures.served
    c.serve_book-served.ensures.reads c.serve_book-served.ensures.writes c.served_status.ensures

pub returns-in-Err : goal.returns-in-Err
returns-in-Err g c =
    ran_unopened g.S.Source.left g.S.Source.faults g.W.Sink.written g.W.Sink.faults g.K.Keeper.holding g.K.Keeper.faults
    g.C.Clock.days _ _ _ _ _ _ _ _ _ _ c.tell_unopened.result c.in-Err.fault c.in-Err.ensures.opened c.in-Err.ensures.cause
    c.in-Err.ensures.stays c.in-Err.ensures.same c.in-Err.ensures.crash c.tell_unopened.ensures refl refl
    c.in-Err.ensures.steps_refused
