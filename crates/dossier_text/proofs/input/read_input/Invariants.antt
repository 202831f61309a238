-- What is read so far is the front of what there was, and one byte past the limit at most; no read has failed.
use Rattle.std.proofs.Common.{◌≡◌, ◌≤◌, ◌+◌, ◌-◌, vec_len}
use Rattle.dossier_text.proofs.Reading.{IsFrontOf}
use Rattle.dossier_text.proofs.input.read_input.Given as goal

abbrev pub invariant-loop-piece : goal.invariant-loop-piece
invariant-loop-piece g l = record {
  front : IsFrontOf (g.S.Source.left l.initial.source) (g.S.Source.left l.source) l.input.items;
  counted : g.S.Source.faults l.source ≡ g.S.Source.faults l.initial.source;
  taken : g.S.Source.room l.source + vec_len l.input ≡ g.S.Source.room l.initial.source;
  within : vec_len l.input ≤ l.limit + 1;
}

abbrev pub decreases-loop-piece : goal.decreases-loop-piece
decreases-loop-piece g l = l.limit + 1 - vec_len l.input
