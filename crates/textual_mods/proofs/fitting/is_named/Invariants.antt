-- The pairs left name the provision exactly where one of all does, for those passed do not.
use Rattle.std.proofs.Common.{◌≡◌, drop, map}
use Rattle.act_tree.specs.Wids.{is_among}
use Rattle.textual_mods.proofs.fitting.is_named.Given as goal

abbrev pub invariant-loop-pair : goal.invariant-loop-pair
invariant-loop-pair l = is_among l.wid (map (λ pair. pair.0) (drop l.pair-index l.pairs)) ≡ is_among l.wid (map (λ pair. pair.0) l.pairs)
