-- Those of the works passed, and those to come.
use Rattle.std.proofs.Common.{◌≡◌, ◌++◌, drop}
use Rattle.held_provisions.specs.Reaching as reaching
use Rattle.held_provisions.proofs.touching.days_told.Given as goal

abbrev pub invariant-loop-one : goal.invariant-loop-one
invariant-loop-one l = l.touched ++ reaching.days_told (drop l.one-index l.along) ≡ reaching.days_told l.along
