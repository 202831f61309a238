-- Those passed carry nothing, and the others are as they were.
use Rattle.std.proofs.Common.{◌≡◌, ◌++◌, drop, map, take}
use Rattle.law_register.specs.Answer.Standing.{mod_alone}
use Rattle.law_register.proofs.register.known.let_go.Given as goal

abbrev pub invariant-loop-known : goal.invariant-loop-known
invariant-loop-known l = l.mods ≡ map mod_alone (take l.known-index l.fn.mods) ++ drop l.known-index l.fn.mods
