-- Each message is judged behind those before it, until one is refused or the input ends.
use Rattle.std.proofs.Common.{◌∙◌, sym, subst, refl, inl, ℕ, List, Option, Ok}
use Rattle.std.proofs.lemmas.Result.{err_from_is_err_and}
use Rattle.law_follow.specs.Following.{IsBetween, ReadsAt}
use Rattle.law_follow.specs.Frames.{Message, message_of}
use Rattle.law_follow.specs.Replicas.{payloads_of}
use Rattle.law_follow.specs.declared.followed.Followed.{Followed}
use Rattle.law_follow.specs.declared.frame.Frame.{Frame}
use Rattle.law_follow.proofs.Ahead.{first_held, more_held, stays_held}
use Rattle.law_follow.proofs.Courses.{gone_more, gone_none}
use Rattle.law_follow.proofs.Giving.{between_given, between_held, leaves_given}
use Rattle.law_follow.proofs.Stops.{leaves_none, leaves_wider, length_of, no_whole, stops_ended, stops_ungiven, stops_unread, stops_untaken, trusted_front, ungiven_cause, ungiven_source, untaken_front}
use Rattle.law_follow.proofs.following.judge_frames.Goals as goal

pub frames-init : goal.frames-init
frames-init g c =
    let h = g.K.Keeper.holding c.args.keeper.now in
    let r = g.K.Keeper.readiness c.args.keeper.now in
    record {
      gone = gone_none (g.S.Source.left c.args.source.now) (payloads_of c.args.replica.now);
      settled = c.requires.settled;
      right = c.requires.right;
      held = first_held h r c.args.replica.now c.args.batch.now c.requires.held c.requires.settled c.requires.none;
      tells = (λ told. told, λ told. told);
      crash = leaves_none h r c.args.replica.now (g.met.K.Keeper.is_holding c.args.keeper.now) c.requires.settled c.requires.held;
      source_count = refl;
      keeper_count = refl;
    }

pub frames-preserved : goal.frames-preserved
frames-preserved g c =
    let left = g.S.Source.left in
    let holding = g.K.Keeper.holding in
    let readiness = g.K.Keeper.readiness in
    let m : Message = message_of c.in-Some.frame in
    let first = payloads_of c.args.replica.now in
    let old = payloads_of c.frames.replica in
    let new = payloads_of c.judge.new.replica in
    let so_far = c.frames.invariant in
    let given = c.in_ok-commit_full.ensures in
    let read = subst (λ (o : Option Frame). ReadsAt c.frames.place (left c.frames.source) (left c.next_frame.new.source) (Ok o)) c.in-Some.is
    c.in_ok-frame.ensures.read in
    let trusted = c.in_ok-answer.ensures.takes in
    let held = stays_held first (holding c.frames.keeper) (readiness c.frames.keeper) c.frames.replica c.judge.new.replica c.frames.batch c.judge.new.batch
    c.in_ok-answer.ensures.ahead so_far.held in
    record {
      gone = gone_more (left c.args.source.now) first (left c.frames.source) (left c.next_frame.new.source)
          old (payloads_of c.commit_full.new.replica) c.frames.tally c.counted-tally.result c.frames.place c.saturating_add-place.result
          m c.in_ok-answer.answer so_far.gone read trusted.trusted trusted.answered (given.payloads ∙ trusted.payloads)
          c.counted-tally.ensures c.saturating_add-place.ensures;
      settled = given.settled;
      right = given.right;
      held = given.held first held;
      tells = (λ told. given.tells.0 (so_far.tells.0 told), λ told. so_far.tells.1 (given.tells.1 told));
      crash = leaves_given first (holding c.frames.keeper) (readiness c.frames.keeper) c.judge.new.replica c.judge.new.batch held
          (holding c.args.keeper.now) (holding c.commit_full.new.keeper) c.commit_full.new.replica given.payloads
          (leaves_wider (holding c.args.keeper.now) (holding c.frames.keeper) first old new
          (trusted_front m old new c.in_ok-answer.answer trusted) so_far.crash)
          given.tells.0 given.crash;
      source_count = c.in_ok-frame.ensures.cause ∙ so_far.source_count;
      keeper_count = given.cause ∙ so_far.keeper_count;
    }

pub returns-in_err-frame-clause-follows : goal.returns-in_err-frame-clause-follows
returns-in_err-frame-clause-follows g c =
    let left = g.S.Source.left in
    let p = err_from_is_err_and c.from_residual.result c.from_residual.ensures.1 in
    rw (p.1, p.2)
    (stops_unread (left c.args.source.now) (left c.frames.source) (left c.next_frame.new.source) (payloads_of c.args.replica.now)
    (payloads_of c.frames.replica) c.frames.tally c.frames.place c.frames.invariant.gone c.in_err-frame.field-0.0 c.in_err-frame.ensures.read)

pub returns-in_err-frame-clause-kept : goal.returns-in_err-frame-clause-kept
returns-in_err-frame-clause-kept g c =
    between_held (payloads_of c.args.replica.now) (g.K.Keeper.holding c.frames.keeper) (g.K.Keeper.readiness c.frames.keeper) c.frames.replica c.frames.batch
    c.frames.invariant.held

pub returns-in_err-frame-clause-held : goal.returns-in_err-frame-clause-held
returns-in_err-frame-clause-held g c = λ whole. c.frames.invariant.held

pub returns-in_err-answer-clause-follows : goal.returns-in_err-answer-clause-follows
returns-in_err-answer-clause-follows g c =
    let left = g.S.Source.left in
    let m : Message = message_of c.in-Some.frame in
    let read = subst (λ (o : Option Frame). ReadsAt c.frames.place (left c.frames.source) (left c.next_frame.new.source) (Ok o)) c.in-Some.is
    c.in_ok-frame.ensures.read in
    let p = err_from_is_err_and c.from_residual-in_err-answer.result c.from_residual-in_err-answer.ensures.1 in
    rw (p.1, p.2)
    (stops_untaken (left c.args.source.now) (left c.frames.source) (left c.next_frame.new.source) (payloads_of c.args.replica.now)
    (payloads_of c.frames.replica) (payloads_of c.judge.new.replica) c.frames.tally c.frames.place m c.frames.invariant.gone read
    c.in_err-answer.field-0.0 c.in_err-answer.ensures.takes)

pub returns-in_err-answer-clause-held : goal.returns-in_err-answer-clause-held
returns-in_err-answer-clause-held g c = λ whole.
    stays_held (payloads_of c.args.replica.now) (g.K.Keeper.holding c.frames.keeper) (g.K.Keeper.readiness c.frames.keeper)
    c.frames.replica c.judge.new.replica c.frames.batch c.judge.new.batch c.in_err-answer.ensures.ahead c.frames.invariant.held

pub returns-in_err-answer-clause-kept : goal.returns-in_err-answer-clause-kept
returns-in_err-answer-clause-kept g c =
    let h = g.K.Keeper.holding c.frames.keeper in
    let r = g.K.Keeper.readiness c.frames.keeper in
    between_held (payloads_of c.args.replica.now) h r c.judge.new.replica c.judge.new.batch
    (stays_held (payloads_of c.args.replica.now) h r c.frames.replica c.judge.new.replica c.frames.batch c.judge.new.batch
    c.in_err-answer.ensures.ahead c.frames.invariant.held)

pub returns-in_err-answer-clause-crash : goal.returns-in_err-answer-clause-crash
returns-in_err-answer-clause-crash g c =
    let holding = g.K.Keeper.holding in
    let old = payloads_of c.frames.replica in
    let new = payloads_of c.judge.new.replica in
    leaves_wider (holding c.args.keeper.now) (holding c.frames.keeper) (payloads_of c.args.replica.now) old new
    (untaken_front (message_of c.in-Some.frame) old new c.in_err-answer.field-0.0 c.in_err-answer.ensures.takes) c.frames.invariant.crash

pub returns-in_err-commit_full-clause-follows : goal.returns-in_err-commit_full-clause-follows
returns-in_err-commit_full-clause-follows g c =
    let left = g.S.Source.left in
    let h = g.K.Keeper.holding c.frames.keeper in
    let r = g.K.Keeper.readiness c.frames.keeper in
    let m : Message = message_of c.in-Some.frame in
    let first = payloads_of c.args.replica.now in
    let so_far = c.frames.invariant in
    let given = c.in_err-commit_full.ensures in
    let same = c.commit_full.ensures.payloads in
    let read = subst (λ (o : Option Frame). ReadsAt c.frames.place (left c.frames.source) (left c.next_frame.new.source) (Ok o)) c.in-Some.is
    c.in_ok-frame.ensures.read in
    let trusted = c.in_ok-answer.ensures.takes in
    let held = stays_held first h r c.frames.replica c.judge.new.replica c.frames.batch c.judge.new.batch c.in_ok-answer.ensures.ahead so_far.held in
    let gone = gone_more (left c.args.source.now) first (left c.frames.source) (left c.next_frame.new.source)
    (payloads_of c.frames.replica) (payloads_of c.commit_full.new.replica) c.frames.tally c.counted-tally.result c.frames.place c.saturating_add-place.result
    m c.in_ok-answer.answer so_far.gone read trusted.trusted trusted.answered (same ∙ trusted.payloads)
    c.counted-tally.ensures c.saturating_add-place.ensures in
    let p = err_from_is_err_and c.from_residual-in_err-commit_full.result c.from_residual-in_err-commit_full.ensures.1 in
    rw (p.1, p.2)
    (stops_ungiven (left c.args.source.now) (left c.next_frame.new.source) (left c.next_frame.new.source) first (payloads_of c.commit_full.new.replica)
    gone.messages c.counted-tally.result gone.come
    (rw same (more_held first h r c.judge.new.replica c.judge.new.batch held given.some))
    (inl refl) c.in_err-commit_full.field-0.0 given.fault)

pub returns-in_err-commit_full-clause-held : goal.returns-in_err-commit_full-clause-held
returns-in_err-commit_full-clause-held g c =
    let p = err_from_is_err_and c.from_residual-in_err-commit_full.result c.from_residual-in_err-commit_full.ensures.1 in
    rw (p.1, p.2) (λ whole. absurd (no_whole c.in_err-commit_full.field-0.0 c.in_err-commit_full.ensures.fault whole))

pub returns-in_err-commit_full-clause-kept : goal.returns-in_err-commit_full-clause-kept
returns-in_err-commit_full-clause-kept g c = λ told.
    let h = g.K.Keeper.holding c.frames.keeper in
    let r = g.K.Keeper.readiness c.frames.keeper in
    let first = payloads_of c.args.replica.now in
    let was = c.commit_full.ensures.tells.1 told in
    subst (λ (ps : List (List ℕ)). IsBetween first ps (g.K.Keeper.holding c.commit_full.new.keeper).list) (sym c.commit_full.ensures.payloads)
    (between_given first h r c.judge.new.replica c.judge.new.batch
    (stays_held first h r c.frames.replica c.judge.new.replica c.frames.batch c.judge.new.batch c.in_ok-answer.ensures.ahead c.frames.invariant.held)
    was (g.K.Keeper.holding c.commit_full.new.keeper).list (c.commit_full.ensures.list was))

pub returns-in_err-commit_full-clause-crash : goal.returns-in_err-commit_full-clause-crash
returns-in_err-commit_full-clause-crash g c =
    let holding = g.K.Keeper.holding in
    let h = holding c.frames.keeper in
    let r = g.K.Keeper.readiness c.frames.keeper in
    let first = payloads_of c.args.replica.now in
    let old = payloads_of c.frames.replica in
    let new = payloads_of c.judge.new.replica in
    leaves_given first h r c.judge.new.replica c.judge.new.batch
    (stays_held first h r c.frames.replica c.judge.new.replica c.frames.batch c.judge.new.batch c.in_ok-answer.ensures.ahead c.frames.invariant.held)
    (holding c.args.keeper.now) (holding c.commit_full.new.keeper) c.commit_full.new.replica c.commit_full.ensures.payloads
    (leaves_wider (holding c.args.keeper.now) h first old new
    (trusted_front (message_of c.in-Some.frame) old new c.in_ok-answer.answer c.in_ok-answer.ensures.takes) c.frames.invariant.crash)
    c.commit_full.ensures.tells.0 c.commit_full.ensures.crash

pub returns-in_err-commit_full-clause-keeper_cause : goal.returns-in_err-commit_full-clause-keeper_cause
returns-in_err-commit_full-clause-keeper_cause g c =
    let p = err_from_is_err_and c.from_residual-in_err-commit_full.result c.from_residual-in_err-commit_full.ensures.1 in
    rw (p.1, p.2)
    (ungiven_cause Followed (g.K.Keeper.holding c.args.keeper.now) (g.K.Keeper.holding c.frames.keeper) (g.K.Keeper.faults c.args.keeper.now)
    (g.K.Keeper.faults c.frames.keeper) (g.K.Keeper.faults c.commit_full.new.keeper) c.in_err-commit_full.field-0.0 c.in_err-commit_full.ensures.fault
    c.frames.invariant.keeper_count c.in_err-commit_full.ensures.cause)

pub returns-in_err-commit_full-clause-source_cause : goal.returns-in_err-commit_full-clause-source_cause
returns-in_err-commit_full-clause-source_cause g c =
    let p = err_from_is_err_and c.from_residual-in_err-commit_full.result c.from_residual-in_err-commit_full.ensures.1 in
    rw (p.1, p.2)
    (ungiven_source Followed (g.S.Source.faults c.args.source.now) (g.S.Source.faults c.next_frame.new.source) c.in_err-commit_full.field-0.0
    c.in_err-commit_full.ensures.fault (c.in_ok-frame.ensures.cause ∙ c.frames.invariant.source_count))

pub returns-clause-follows : goal.returns-clause-follows
returns-clause-follows g c =
    let left = g.S.Source.left in
    let read = subst (λ (o : Option Frame). ReadsAt c.frames.place (left c.frames.source) (left c.next_frame.new.source) (Ok o)) c.in_default.is
    c.in_ok-frame.ensures.read in
    stops_ended (left c.args.source.now) (left c.frames.source) (left c.next_frame.new.source) (payloads_of c.args.replica.now)
    (payloads_of c.frames.replica) c.frames.tally c.frames.place c.frames.invariant.gone
    (record { length = c.len-length.result; tally = c.frames.tally }) read (c.len-length.ensures ∙ length_of c.frames.replica) refl

pub returns-clause-held : goal.returns-clause-held
returns-clause-held g c = λ whole. c.frames.invariant.held

pub returns-clause-kept : goal.returns-clause-kept
returns-clause-kept g c =
    between_held (payloads_of c.args.replica.now) (g.K.Keeper.holding c.frames.keeper) (g.K.Keeper.readiness c.frames.keeper) c.frames.replica c.frames.batch
    c.frames.invariant.held
