-- The pairs so far name provisions, and so do all if those that are left do.
use Rattle.std.proofs.Common.{◌≡◌, true, map, take, drop}
use Rattle.std.specs.Prelude.{is_some}
use Rattle.std.specs.List.{All, list_all}
use Rattle.eid_paths.specs.Nums.{is_num}
use Rattle.act_tree.specs.Seen.{tree_view, has_node, provision_at}
use Rattle.textual_mods.specs.Targets as spec
use Rattle.textual_mods.proofs.renumbering.nodes_named.Given as goal

abbrev pub invariant-loop-wid : goal.invariant-loop-wid
invariant-loop-wid l =
    All (λ pair. has_node l.tree pair.0 ≡ true) l.named.items
    × All (λ pair. pair.0 ≡ 0 → ⊥) l.named.items
    × All (λ pair. is_num pair.1 ≡ true) l.named.items
    × (map (λ pair. ((provision_at l.tree pair.0).wid, pair.1)) l.named.items ≡ take l.wid-index l.pairs)
    × (list_all (λ pair. is_some (spec.provision_named pair.0 (tree_view l.tree).body)) (drop l.wid-index l.pairs)
    ≡ list_all (λ pair. is_some (spec.provision_named pair.0 (tree_view l.tree).body)) l.pairs)
