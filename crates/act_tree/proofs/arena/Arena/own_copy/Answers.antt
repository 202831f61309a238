use Rattle.std.proofs.Common.{◌∙◌, sym, ap, ℕ, List, length, map}
use Rattle.act_tree.specs.LevelHashes.{slot_hash}
use Rattle.act_tree.proofs.arena.Arena.own_copy.Goals as goal

pub invariant_of-result : goal.invariant_of-result
invariant_of-result c =
    let old = c.args.self.now in
    record {
      hashed = c.in_ok-own_copy-3.ensures.hashes ∙ old.hashed ∙ sym (ap (map slot_hash) c.in_ok-own_copy.ensures.items);
      noted = ap (λ (ws : List (List ℕ)). length ws) c.in_ok-own_copy-2.ensures.wids ∙ old.noted ∙ sym (ap (λ (hs : List ℕ). length hs) c.in_ok-own_copy-3.ensures.hashes);
      alike = c.in_ok-own_copy.ensures.own ∙ sym c.in_ok-own_copy-2.ensures.own;
      levels_alike = c.in_ok-own_copy-3.ensures.own ∙ sym c.in_ok-own_copy-2.ensures.own;
    }
