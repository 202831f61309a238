-- The first day of those passed, from the last on.
use Rattle.std.proofs.Common.{◌≡◌, drop, map}
use Rattle.law_register.specs.Answer.Touched as spec
use Rattle.replay_core.proofs.touched.day_filed.Given as goal

abbrev pub invariant-loop-index : goal.invariant-loop-index
invariant-loop-index l = l.first ≡ spec.day_recorded (map (λ i. i.body) (drop l.index l.items))
