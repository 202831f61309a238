-- The messages read so far were judged, none was refused, and the keeper was given all but those of the batch; nothing has failed.
use Rattle.std.proofs.Common.{◌≡◌, ◌↔◌, None}
use Rattle.law_follow.specs.Batches.{HasHeld}
use Rattle.law_follow.specs.Following.{IsBetween}
use Rattle.law_follow.specs.Replicas.{IsRight, payloads_of}
use Rattle.law_follow.specs.Taking.{LeavesLists}
use Rattle.law_follow.proofs.Courses.{HasGone, course_of}
use Rattle.law_follow.proofs.following.judge_frames.Given as goal

abbrev pub invariant-frames : goal.invariant-frames
invariant-frames g l = record {
  gone : HasGone (g.S.Source.left l.initial.source) (payloads_of l.initial.replica) (g.S.Source.left l.source)
      (course_of (payloads_of l.replica) l.tally) l.place;
  settled : l.replica.pending ≡ None;
  right : IsRight l.replica;
  held : HasHeld (payloads_of l.initial.replica) (g.K.Keeper.holding l.keeper) (g.K.Keeper.readiness l.keeper) l.replica l.batch;
  tells : (g.K.Keeper.holding l.initial.keeper).tells ↔ (g.K.Keeper.holding l.keeper).tells;
  crash : LeavesLists (IsBetween (payloads_of l.initial.replica) (payloads_of l.replica)) (g.K.Keeper.holding l.initial.keeper) (g.K.Keeper.holding l.keeper);
  source_count : g.S.Source.faults l.source ≡ g.S.Source.faults l.initial.source;
  keeper_count : g.K.Keeper.faults l.keeper ≡ g.K.Keeper.faults l.initial.keeper;
}

abbrev pub decreases-frames : goal.decreases-frames
decreases-frames g l = g.S.Source.room l.source
