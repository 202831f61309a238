-- The first day of those passed, from the last on.
use Rattle.std.proofs.Common.{◌≡◌, drop}
use Rattle.law_register.specs.Answer.Touched as spec
use Rattle.replay_core.proofs.touched.first_on.Given as goal

abbrev pub invariant-loop-index : goal.invariant-loop-index
invariant-loop-index l = l.first ≡ spec.first_on l.id (drop l.index l.mods)
