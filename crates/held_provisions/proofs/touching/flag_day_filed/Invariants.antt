-- The first day of those passed, from the last on.
use Rattle.std.proofs.Common.{◌≡◌, drop, map}
use Rattle.law_register.specs.Provisions.Touching as spec
use Rattle.held_provisions.proofs.touching.flag_day_filed.Given as goal

abbrev pub invariant-loop-index : goal.invariant-loop-index
invariant-loop-index l = l.first ≡ spec.first_flag_day (map (λ i. i.body) (drop l.index l.items))
