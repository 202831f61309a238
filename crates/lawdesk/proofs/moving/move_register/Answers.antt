-- How a move ended is what a run of it leaves.
use Rattle.lawdesk.proofs.MovesTold.{ran_move}
use Rattle.lawdesk.proofs.moving.move_register.Goals as goal

pub returns : goal.returns
returns g c =
    let m = c.move_all-moved.ensures in
    ran_move g.K.Keeper.holding g.K.Keeper.faults g.O.Keeper.holding g.O.Keeper.faults g.W.Sink.written g.W.Sink.faults
    c.args.keeper.now c.move_all-moved.new.from c.args.other.now c.move_all-moved.new.to c.args.sink.now c.tell_move.new.sink
    c.move_all-moved.result c.tell_move.result m.moved c.tell_move.ensures m.cause m.same m.grows m.crash m.crash_to
