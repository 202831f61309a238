-- The keeper is opened, and then the payloads of its register are written.
use Rattle.law_follow.proofs.Written.{exports_all, keeper_free, sink_caused, sink_free}
use Rattle.law_follow.proofs.exporting.export.Goals as goal

pub returns-in-Ok-clause-exports : goal.returns-in-Ok-clause-exports
returns-in-Ok-clause-exports g c =
    let holding = g.K.Keeper.holding in
    let written = g.W.Sink.written in
    rw c.exported.ensures
    (exports_all c.args.from (holding c.args.keeper.now) (holding c.open.new.keeper) (g.K.Keeper.readiness c.open.new.keeper) c.in-Ok.replica
    (written c.args.sink.now) (written c.put_above-put.new.sink) c.in-Ok.ensures.right c.in-Ok.ensures.settled c.open.ensures.same c.in-Ok.ensures.held
    c.put_above-put.result c.put_above-put.ensures.written)

pub returns-in-Ok-clause-unwritten : goal.returns-in-Ok-clause-unwritten
returns-in-Ok-clause-unwritten g c = rw c.exported.ensures (sink_free c.args.sink.now c.put_above-put.new.sink c.put_above-put.result)

pub returns-in-Ok-clause-sink_cause : goal.returns-in-Ok-clause-sink_cause
returns-in-Ok-clause-sink_cause g c =
    rw c.exported.ensures
    (sink_caused (g.W.Sink.faults c.args.sink.now) (g.W.Sink.faults c.put_above-put.new.sink) c.put_above-put.result c.put_above-put.ensures.cause)

pub returns-in-Ok-clause-keeper_cause : goal.returns-in-Ok-clause-keeper_cause
returns-in-Ok-clause-keeper_cause g c =
    rw c.exported.ensures
    (keeper_free (g.K.Keeper.holding c.args.keeper.now) (g.K.Keeper.faults c.args.keeper.now) (g.K.Keeper.faults c.open.new.keeper) c.put_above-put.result
    c.in-Ok.ensures.cause)
