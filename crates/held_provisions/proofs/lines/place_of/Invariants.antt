-- Those passed all come before it, so the rest decides.
use Rattle.std.proofs.Common.{◌≡◌, drop}
use Rattle.held_provisions.specs.Placing.{place_from}
use Rattle.held_provisions.proofs.lines.place_of.Given as goal

abbrev pub invariant-loop-index : goal.invariant-loop-index
invariant-loop-index l = place_from l.index l.known (drop l.index l.works) ≡ place_from 0 l.known l.works
