-- Gates were served over the keeper that was opened, or none was.
use Rattle.std.proofs.Common.{refl}
use Rattle.lawdesk.proofs.ServingRuns.{ran_served, ran_unopened}
use Rattle.lawdesk.proofs.serving.serve.Goals as goal

pub returns-in-Ok : goal.returns-in-Ok
returns-in-Ok g c =
    ran_served g.G.Conn.Link.left g.G.Conn.Link.written g.G.Conn.Link.read_faults g.G.Conn.Link.write_faults g.G.Gate.tally g.G.Gate.faults
    g.W.Sink.written g.W.Sink.faults g.K.Keeper.holding g.K.Keeper.faults g.C.Clock.days
    _ _ _ _ _ _ _ _ _ c.end_served.result c.open_book.new.keeper c.in-Ok.book.register.entries _ _ _ _
    c.in-Ok.ensures.opened c.in-Ok.ensures.same c.in-Ok.ensures.cause c.serve_book-over.ensures c.end_served.ensures

pub returns-in-Err : goal.returns-in-Err
returns-in-Err g c =
    ran_unopened g.G.Conn.Link.left g.G.Conn.Link.written g.G.Conn.Link.read_faults g.G.Conn.Link.write_faults g.G.Gate.tally g.G.Gate.faults
    g.W.Sink.written g.W.Sink.faults g.K.Keeper.holding g.K.Keeper.faults g.C.Clock.days
    _ _ _ _ _ _ _ _ _ c.tell_unopened.result c.in-Err.fault c.in-Err.ensures.opened c.in-Err.ensures.cause c.in-Err.ensures.stays
    c.in-Err.ensures.same c.in-Err.ensures.crash c.tell_unopened.ensures refl refl
