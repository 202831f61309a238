use Rattle.std.proofs.Common.{◌∙◌, sym, ap, ℕ, List, length}
use Rattle.act_tree.proofs.HashIndexMoves.{index_none}
use Rattle.act_tree.proofs.hash_index.HashIndex.new.Goals as goal

pub invariant_of-result : goal.invariant_of-result
invariant_of-result c = record {
  index = index_none _ _ _ _ c.new.ensures.items c.new-2.ensures.items c.new-3.ensures.items (ap (λ (xs : List ℕ). length xs) c.new-2.ensures.items);
  heads_alike = c.new-2.ensures.own ∙ sym c.new.ensures.own;
  links_alike = c.new-3.ensures.own ∙ sym c.new.ensures.own;
}
