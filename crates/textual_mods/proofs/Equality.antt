-- `==` holds of edits exactly where they are equal.
use Rattle.std.proofs.Common.{◌≡◌, rules}
use Rattle.std.specs.Bool.{Decides}
use Rattle.act_tree.specs.SameNodes.{nodes_decide}
use Rattle.textual_mods.specs.SamePairs.{pairs_decide}
use Rattle.textual_mods.specs.contracts.edit.TextualModPartialEq.TheImpl.{ghosts}
use Rattle.textual_mods.specs.declared.edit.TextualMod.{TextualMod}

pub edits_decide : (a b : TextualMod) → Decides (ghosts.eq a b) (a ≡ b)
edits_decide a b = search (rules, nodes_decide, pairs_decide)
