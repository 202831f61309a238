-- The first day of those passed, from the last on.
use Rattle.std.proofs.Common.{◌≡◌, drop}
use Rattle.law_register.specs.Provisions.Touching as spec
use Rattle.held_provisions.proofs.touching.first_flag_day.Given as goal

abbrev pub invariant-loop-index : goal.invariant-loop-index
invariant-loop-index l = l.first ≡ spec.first_flag_day (drop l.index l.bodies)
