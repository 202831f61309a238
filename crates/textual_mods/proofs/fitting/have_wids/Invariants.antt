-- The pairs left have wIds exactly where all have, for those passed do.
use Rattle.std.proofs.Common.{◌≡◌, drop}
use Rattle.std.specs.List.{list_all}
use Rattle.act_tree.specs.Limits as limits
use Rattle.textual_mods.proofs.fitting.have_wids.Given as goal

abbrev pub invariant-loop-pair : goal.invariant-loop-pair
invariant-loop-pair l = list_all (λ pair. limits.is_wid pair.0) (drop l.pair-index l.pairs) ≡ list_all (λ pair. limits.is_wid pair.0) l.pairs
