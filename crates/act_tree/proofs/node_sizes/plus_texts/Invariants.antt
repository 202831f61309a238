-- The sum so far and the texts left make what the first sum and all of them make.
use Rattle.std.proofs.Common.{◌≡◌, ◌+◌, ◌≤◌, drop, min}
use Rattle.act_tree.specs.NodeSizes.{texts_size}
use Rattle.act_tree.proofs.node_sizes.plus_texts.Given as goal

abbrev pub invariant-loop-text : goal.invariant-loop-text
invariant-loop-text l = record {
  sum : min (l.sum + texts_size (drop l.text-index l.texts)) 18446744073709551615 ≡ min (l.size + (2 + texts_size l.texts)) 18446744073709551615;
  fits : l.sum ≤ 18446744073709551615;
}
