-- The pairs behind the place have given their nums.
use Rattle.std.proofs.Common.{◌≡◌, true, ℕ, map, drop}
use Rattle.act_tree.specs.Changes.{renumbered}
use Rattle.act_tree.specs.Seen.{tree_view, is_own, has_node, provision_at}
use Rattle.act_tree.proofs.tree.Tree.put_nums.Given as goal

abbrev pub invariant-loop-place : goal.invariant-loop-place
invariant-loop-place l =
    (tree_view l.self ≡ record (tree_view l.initial.self) { body = renumbered (map (λ pair. ((provision_at l.initial.self pair.0).wid, pair.1)) (drop l.place l.pairs)) (tree_view l.initial.self).body })
    × (((k : ℕ) → has_node l.self k ≡ has_node l.initial.self k) × (((k : ℕ) → (provision_at l.self k).wid ≡ (provision_at l.initial.self k).wid) × (is_own l.self ≡ true)))
