-- The keeper is opened, and then its stream is followed.
use Rattle.law_follow.specs.Replicas.{payloads_of}
use Rattle.law_follow.proofs.Stops.{follows_all, follows_over, keeper_caused, source_free}
use Rattle.law_follow.proofs.following.follow.Goals as goal

pub returns-in-Ok-clause-follows : goal.returns-in-Ok-clause-follows
returns-in-Ok-clause-follows g c =
    let holding = g.K.Keeper.holding in
    let readiness = g.K.Keeper.readiness in
    let left = g.S.Source.left in
    follows_all (left c.args.source.now) (left c.follow_frames-followed.new.source) (holding c.args.keeper.now) (holding c.follow_frames-followed.new.keeper)
    c.follow_frames-followed.result
    (follows_over (left c.args.source.now) (left c.follow_frames-followed.new.source)
    (holding c.args.keeper.now) (holding c.open.new.keeper) (holding c.follow_frames-followed.new.keeper)
    (readiness c.open.new.keeper) c.in-Ok.replica c.follow_frames-followed.new.replica c.follow_frames-followed.result
    c.in-Ok.ensures.right c.in-Ok.ensures.settled c.open.ensures.same c.in-Ok.ensures.held c.open.ensures.crash
    c.follow_frames-followed.ensures.follows c.follow_frames-followed.ensures.tells c.follow_frames-followed.ensures.right
    c.follow_frames-followed.ensures.kept c.follow_frames-followed.ensures.crash)

pub returns-in-Ok-clause-unread : goal.returns-in-Ok-clause-unread
returns-in-Ok-clause-unread g c =
    source_free c.args.source.now c.follow_frames-followed.new.source (g.S.Source.left c.args.source.now) (g.S.Source.left c.follow_frames-followed.new.source)
    (payloads_of c.in-Ok.replica) (payloads_of c.follow_frames-followed.new.replica) c.follow_frames-followed.result c.follow_frames-followed.ensures.follows

pub returns-in-Ok-clause-keeper_cause : goal.returns-in-Ok-clause-keeper_cause
returns-in-Ok-clause-keeper_cause g c =
    let holding = g.K.Keeper.holding in
    let faults = g.K.Keeper.faults in
    keeper_caused (holding c.args.keeper.now) (holding c.open.new.keeper) (faults c.args.keeper.now) (faults c.open.new.keeper)
    (faults c.follow_frames-followed.new.keeper) (g.S.Source.left c.args.source.now) (g.S.Source.left c.follow_frames-followed.new.source)
    (payloads_of c.in-Ok.replica) (payloads_of c.follow_frames-followed.new.replica) c.follow_frames-followed.result c.follow_frames-followed.ensures.follows
    c.in-Ok.ensures.cause c.follow_frames-followed.ensures.keeper_cause
