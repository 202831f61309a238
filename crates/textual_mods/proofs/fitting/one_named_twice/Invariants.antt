-- Two of the pairs left name one provision exactly where two of all do, for none of those passed names one that another names.
use Rattle.std.proofs.Common.{◌≡◌, drop, map}
use Rattle.act_tree.specs.Wids.{one_twice}
use Rattle.textual_mods.proofs.fitting.one_named_twice.Given as goal

abbrev pub invariant-loop-i : goal.invariant-loop-i
invariant-loop-i l = one_twice (map (λ pair. pair.0) (drop l.i l.pairs)) ≡ one_twice (map (λ pair. pair.0) l.pairs)
