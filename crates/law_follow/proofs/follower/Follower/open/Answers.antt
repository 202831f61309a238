use Rattle.law_follow.proofs.Opened.{opened_list}
use Rattle.law_follow.proofs.follower.Follower.open.Goals as goal

pub returns-in-Ok-clause-opened : goal.returns-in-Ok-clause-opened
returns-in-Ok-clause-opened g c =
    opened_list (g.K.Keeper.holding c.args.keeper.now) (g.K.Keeper.holding c.open.new.keeper) (g.K.Keeper.readiness c.open.new.keeper) c.in-Ok.replica
    c.in-Ok.ensures.right c.in-Ok.ensures.settled c.in-Ok.ensures.held c.open.ensures.same
