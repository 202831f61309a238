-- The first day of those passed, from the last on.
use Rattle.std.proofs.Common.{◌≡◌, drop, map}
use Rattle.held_provisions.specs.Reaching as reaching
use Rattle.held_provisions.proofs.touching.first_reached.Given as goal

abbrev pub invariant-loop-index : goal.invariant-loop-index
invariant-loop-index g l = l.first ≡ reaching.first_reached (map g.O.InLine.known_of l.old) (map g.N.InLine.known_of l.new) l.work (drop l.index l.ahead)
