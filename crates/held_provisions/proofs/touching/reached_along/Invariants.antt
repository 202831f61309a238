-- The works passed, each with its days, and those to come.
use Rattle.std.proofs.Common.{◌≡◌, [], drop, map}
use Rattle.held_provisions.specs.Reaching.{reached_after}
use Rattle.held_provisions.proofs.touching.reached_along.Given as goal

abbrev pub invariant-loop-one : goal.invariant-loop-one
invariant-loop-one g l =
    reached_after l.register.entries l.entry (map g.O.InLine.known_of l.old) (map g.N.InLine.known_of l.new) l.ahead.items (map g.N.InLine.known_of (drop l.one-index l.new))
    ≡ reached_after l.register.entries l.entry (map g.O.InLine.known_of l.old) (map g.N.InLine.known_of l.new) [] (map g.N.InLine.known_of l.new)
