-- What the batch has is given to the keeper once all was read, or a frame is refused.
use Rattle.std.proofs.Common.{◌≡◌, ◌∙◌, sym, subst, true, false, Err, ℕ, List}
use Rattle.law_follow.specs.Following.{HasFollowed, IsBetween}
use Rattle.law_follow.specs.Replicas.{payloads_of}
use Rattle.law_follow.specs.declared.followed.Followed.{Followed}
use Rattle.law_follow.proofs.Ahead.{all_held, more_held}
use Rattle.law_follow.proofs.Giving.{between_given, between_held, leaves_given}
use Rattle.law_follow.proofs.Stops.{late_keeper, late_source, no_whole, stops_late, ungiven_cause, ungiven_source, whole_cause}
use Rattle.law_follow.proofs.following.follow_frames.Goals as goal

pub returns-then-not-is_whole-clause-kept : goal.returns-then-not-is_whole-clause-kept
returns-then-not-is_whole-clause-kept g c = λ told. (
  c.judge_frames-went.ensures.kept told,
  λ whole. absurd (let no : false ≡ true = sym c.if-not-is_whole.true ∙ c.is_whole.ensures ∙ whole in cc no),
)

pub returns-in-Ok-clause-follows : goal.returns-in-Ok-clause-follows
returns-in-Ok-clause-follows g c =
    let left = g.S.Source.left in
    subst
    (λ (ps : List (List ℕ)). HasFollowed (left c.args.source.now) (payloads_of c.args.replica.now) (left c.judge_frames-went.new.source) ps c.judge_frames-went.result)
    (sym c.commit.ensures.payloads) c.judge_frames-went.ensures.follows

pub returns-in-Ok-clause-kept : goal.returns-in-Ok-clause-kept
returns-in-Ok-clause-kept g c = λ told.
    let h = g.K.Keeper.holding c.commit.new.keeper in
    let r = g.K.Keeper.readiness c.commit.new.keeper in
    let first = payloads_of c.args.replica.now in
    let held = c.in-Ok.ensures.held first (c.judge_frames-went.ensures.held (sym c.is_whole.ensures ∙ c.if-not-is_whole.false)) in (
      between_held first h r c.commit.new.replica c.commit.new.batch held told,
      λ whole. all_held first h r c.commit.new.replica c.commit.new.batch held c.in-Ok.ensures.whole told,
    )

pub returns-in-Ok-clause-crash : goal.returns-in-Ok-clause-crash
returns-in-Ok-clause-crash g c =
    let holding = g.K.Keeper.holding in
    leaves_given (payloads_of c.args.replica.now) (holding c.judge_frames-went.new.keeper) (g.K.Keeper.readiness c.judge_frames-went.new.keeper)
    c.judge_frames-went.new.replica c.judge_frames-went.new.batch (c.judge_frames-went.ensures.held (sym c.is_whole.ensures ∙ c.if-not-is_whole.false))
    (holding c.args.keeper.now) (holding c.commit.new.keeper) c.commit.new.replica c.commit.ensures.payloads c.judge_frames-went.ensures.crash
    c.commit.ensures.tells.0 c.commit.ensures.crash

pub returns-in-Ok-clause-keeper_cause : goal.returns-in-Ok-clause-keeper_cause
returns-in-Ok-clause-keeper_cause g c =
    let faults = g.K.Keeper.faults in
    whole_cause (g.K.Keeper.holding c.args.keeper.now) (faults c.args.keeper.now) (faults c.judge_frames-went.new.keeper) (faults c.commit.new.keeper)
    c.judge_frames-went.result c.in-Ok.ensures.cause c.judge_frames-went.ensures.keeper_cause

pub returns-clause-follows : goal.returns-clause-follows
returns-clause-follows g c =
    let left = g.S.Source.left in
    let first = payloads_of c.args.replica.now in
    let old = payloads_of c.judge_frames-went.new.replica in
    let whole : _ ≡ true = sym c.is_whole.ensures ∙ c.if-not-is_whole.false in
    subst (λ (ps : List (List ℕ)). HasFollowed (left c.args.source.now) first (left c.judge_frames-went.new.source) ps (Err c.in-Err.fault))
    (sym c.commit.ensures.payloads)
    (stops_late (left c.args.source.now) (left c.judge_frames-went.new.source) first old
    (more_held first (g.K.Keeper.holding c.judge_frames-went.new.keeper) (g.K.Keeper.readiness c.judge_frames-went.new.keeper)
    c.judge_frames-went.new.replica c.judge_frames-went.new.batch (c.judge_frames-went.ensures.held whole) c.in-Err.ensures.some)
    c.in-Err.fault c.in-Err.ensures.fault c.judge_frames-went.result whole c.judge_frames-went.ensures.follows)

pub returns-clause-kept : goal.returns-clause-kept
returns-clause-kept g c = λ told.
    let first = payloads_of c.args.replica.now in
    let list = (g.K.Keeper.holding c.commit.new.keeper).list in
    let was = c.commit.ensures.tells.1 told in (
      subst (λ (ps : List (List ℕ)). IsBetween first ps list) (sym c.commit.ensures.payloads)
          (between_given first (g.K.Keeper.holding c.judge_frames-went.new.keeper) (g.K.Keeper.readiness c.judge_frames-went.new.keeper)
          c.judge_frames-went.new.replica c.judge_frames-went.new.batch
          (c.judge_frames-went.ensures.held (sym c.is_whole.ensures ∙ c.if-not-is_whole.false)) was list (c.commit.ensures.list was)),
      λ whole. absurd (no_whole c.in-Err.fault c.in-Err.ensures.fault whole),
    )

pub returns-clause-crash : goal.returns-clause-crash
returns-clause-crash g c =
    let holding = g.K.Keeper.holding in
    leaves_given (payloads_of c.args.replica.now) (holding c.judge_frames-went.new.keeper) (g.K.Keeper.readiness c.judge_frames-went.new.keeper)
    c.judge_frames-went.new.replica c.judge_frames-went.new.batch (c.judge_frames-went.ensures.held (sym c.is_whole.ensures ∙ c.if-not-is_whole.false))
    (holding c.args.keeper.now) (holding c.commit.new.keeper) c.commit.new.replica c.commit.ensures.payloads c.judge_frames-went.ensures.crash
    c.commit.ensures.tells.0 c.commit.ensures.crash

pub returns-clause-source_cause : goal.returns-clause-source_cause
returns-clause-source_cause g c =
    let faults = g.S.Source.faults in
    ungiven_source Followed (faults c.args.source.now) (faults c.judge_frames-went.new.source) c.in-Err.fault c.in-Err.ensures.fault
    (late_source (faults c.args.source.now) (faults c.judge_frames-went.new.source) c.judge_frames-went.result
    (sym c.is_whole.ensures ∙ c.if-not-is_whole.false) c.judge_frames-went.ensures.source_cause)

pub returns-clause-keeper_cause : goal.returns-clause-keeper_cause
returns-clause-keeper_cause g c =
    let faults = g.K.Keeper.faults in
    let holding = g.K.Keeper.holding in
    ungiven_cause Followed (holding c.args.keeper.now) (holding c.judge_frames-went.new.keeper) (faults c.args.keeper.now) (faults c.judge_frames-went.new.keeper)
    (faults c.commit.new.keeper) c.in-Err.fault c.in-Err.ensures.fault
    (late_keeper (holding c.args.keeper.now) (faults c.args.keeper.now) (faults c.judge_frames-went.new.keeper) c.judge_frames-went.result
    (sym c.is_whole.ensures ∙ c.if-not-is_whole.false) c.judge_frames-went.ensures.keeper_cause)
    c.in-Err.ensures.cause
