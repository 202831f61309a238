-- Of the works passed, from the last on, those that are needed.
use Rattle.std.proofs.Common.{◌≡◌, drop, map}
use Rattle.held_provisions.specs.Needing.{needed_in}
use Rattle.held_provisions.proofs.needing.needed.Given as goal

abbrev pub invariant-loop-index : goal.invariant-loop-index
invariant-loop-index g l =
    l.needed.items ≡ needed_in (map g.T.InLine.known_of l.works) l.known (map g.T.InLine.known_of (drop l.index l.works))
