-- The days passed, and the rest.
use Rattle.std.proofs.Common.{◌≡◌, ◌++◌}
use Rattle.held_provisions.proofs.carrying.listed.Given as goal

abbrev pub invariant-loop-day : goal.invariant-loop-day
invariant-loop-day l = l.items.items ++ l.day-iterator ≡ l.days.keys
