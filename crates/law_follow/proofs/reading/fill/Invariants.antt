-- What is filled so far is the front of what there was, and no longer than was wanted; no read has failed.
use Rattle.std.proofs.Common.{◌≡◌, ◌≤◌, ◌+◌, ◌-◌, length, take}
use Rattle.law_follow.proofs.Pieces.{IsFrontOf}
use Rattle.law_follow.proofs.reading.fill.Given as goal

abbrev pub invariant-loop-filled : goal.invariant-loop-filled
invariant-loop-filled g l = record {
  front : IsFrontOf (g.S.Source.left l.initial.source) (g.S.Source.left l.source) (take l.filled l.into);
  counted : g.S.Source.faults l.source ≡ g.S.Source.faults l.initial.source;
  room : g.S.Source.room l.source + l.filled ≡ g.S.Source.room l.initial.source;
  within : l.filled ≤ length l.into;
  long : length l.into ≡ length l.initial.into;
}

abbrev pub decreases-loop-filled : goal.decreases-loop-filled
decreases-loop-filled g l = length l.initial.into - l.filled
