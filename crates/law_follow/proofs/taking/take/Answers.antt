-- What is pending is settled, and then the payload is given to what is settled.
use Rattle.law_follow.proofs.Ending.{ends, waits}
use Rattle.law_follow.proofs.taking.take.Goals as goal

pub returns-in-Ok-clause-takes : goal.returns-in-Ok-clause-takes
returns-in-Ok-clause-takes g c =
    let holding = g.K.Keeper.holding in
    let readiness = g.K.Keeper.readiness in
    ends c.args.number c.args.payload.items c.args.replica.now c.settle_pending.new.replica c.take_settled.new.replica
    (holding c.args.keeper.now) (holding c.settle_pending.new.keeper) (holding c.take_settled.new.keeper)
    (readiness c.settle_pending.new.keeper) (readiness c.take_settled.new.keeper)
    c.in-Ok.ensures.settles.0 c.in-Ok.ensures.settles.1 c.in-Ok.ensures.same
    c.in-Ok.ensures.held c.take_settled.ensures.held c.take_settled.ensures.tells.0
    c.take_settled.result c.take_settled.ensures.steps

pub returns-in-Err-clause-takes : goal.returns-in-Err-clause-takes
returns-in-Err-clause-takes g c =
    let holding = g.K.Keeper.holding in
    rw c.from.ensures
    (waits c.args.number c.args.payload.items c.args.replica.now c.settle_pending.new.replica
    (holding c.args.keeper.now) (holding c.settle_pending.new.keeper)
    c.in-Err.fault c.in-Err.ensures.settles c.in-Err.ensures.same)
