-- The sum so far and the modifications left make what the first sum and all of them make.
use Rattle.std.proofs.Common.{◌≡◌, ◌+◌, ◌≤◌, drop, min}
use Rattle.law_register.specs.Law.Sizes.{modifications_size}
use Rattle.law_register.proofs.law.sizes.Mods.plus_size.Given as goal

abbrev pub invariant-loop-modification : goal.invariant-loop-modification
invariant-loop-modification l = record {
  sum : min (l.sum + modifications_size l.format (drop l.modification-index l.self)) 18446744073709551615 ≡ min (l.size + (2 + modifications_size l.format l.self)) 18446744073709551615;
  fits : l.sum ≤ 18446744073709551615;
}
