-- What is read stands behind what was filled before.
use Rattle.std.proofs.Common.{rules, ◌-◌, sym, subst, List, ℕ, length, take}
use Rattle.law_follow.proofs.Pieces.{IsFrontOf, more_front, put_more}
use Rattle.law_follow.proofs.reading.fill.Goals as goal

pub loop-filled-preserved : goal.loop-filled-preserved
loop-filled-preserved g c =
    let left = g.S.Source.left in
    let filled : ℕ = c.loop-filled.filled in
    let into : List ℕ = c.loop-filled.into in
    let piece : List ℕ = c.read.new.into in
    record {
      front = subst (IsFrontOf (left c.args.source.now) (left c.read.new.self))
          (sym (put_more filled c.in_ok-count.count (length into - filled) into piece c.loop-filled.invariant.within c.in_ok-count.ensures.fits.0))
          (more_front (left c.args.source.now) (left c.loop-filled.source) (left c.read.new.self) (take filled into) (take c.in_ok-count.count piece)
          c.loop-filled.invariant.front c.in_ok-count.ensures.taken.0);
      counted = search rules;
      room = search rules;
      within = search rules;
      long = search rules;
    }
