-- The sum so far and the pairs left make what the first sum and all of them make.
use Rattle.std.proofs.Common.{◌≡◌, ◌+◌, ◌≤◌, drop, min}
use Rattle.textual_mods.specs.EditSizes.{pairs_size}
use Rattle.textual_mods.proofs.pairs.Pairs.plus_size.Given as goal

abbrev pub invariant-loop-pair : goal.invariant-loop-pair
invariant-loop-pair l = record {
  sum : min (l.sum + pairs_size (drop l.pair-index l.self)) 18446744073709551615 ≡ min (l.size + (2 + pairs_size l.self)) 18446744073709551615;
  fits : l.sum ≤ 18446744073709551615;
}
