-- How a move ended is told by its line.
use Rattle.std.proofs.Common.{◌≡◌, Err, Ok, subst, sym}
use Rattle.lawdesk.specs.Moving.{TellsMove, told_moved}
use Rattle.lawdesk.proofs.moving.tell_move.Goals as goal

pub returns-in-Ok : goal.returns-in-Ok
returns-in-Ok g c =
    subst (λ m. TellsMove g.W.Sink.written g.W.Sink.faults c.args.sink.now c.tell.new.sink m c.tell.result) (sym c.in-Ok.is)
    (c.tell.ensures.told (told_moved c.in-Ok.count) c.report_moved.ensures)

pub returns-in-Err : goal.returns-in-Err
returns-in-Err g c =
    subst (λ m. TellsMove g.W.Sink.written g.W.Sink.faults c.args.sink.now c.tell_stop.new.sink m c.tell_stop.result) (sym c.in-Err.is)
    c.tell_stop.ensures
