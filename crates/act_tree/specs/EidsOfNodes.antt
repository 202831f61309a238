-- The eIds of the nodes of a tree.
use Rattle.std.specs.Prelude.{ℕ, zero, suc, ◌==◌, ◌≡◌, true, List, Option, Some, None, if◌then◌else◌}
use Rattle.eid_paths.specs.declared.numbering.Numbering.{Numbering}
use Rattle.act_tree.specs.declared.tree.Tree.{Tree}
use Rattle.act_tree.specs.Arena.{Laid, provision_in, above_in}
use Rattle.act_tree.specs.Eids.{eid_below}
use Rattle.act_tree.specs.EidsOfWids.{eid_of_wid}
use Rattle.act_tree.specs.Seen.{tree_view, has_node, provision_at}

-- the eId of a number, in so many steps up: none of the root, and else the one below the eId of the number above
abbrev pub eid_up : ℕ → Numbering → (ℕ → Option Laid) → ℕ → Option (List ℕ)
eid_up zero numbering at i = None
eid_up (suc steps) numbering at i =
    if i == 0 then None
    else Some (eid_below numbering (eid_up steps numbering at (above_in (at i)))
    (provision_in (at i)).own.element (provision_in (at i)).own.num)

-- the eId of a node, which is that of its wId; the root has none
abbrev pub eid_at : Tree → ℕ → Option (List ℕ)
eid_at t i = eid_of_wid (tree_view t) (provision_at t i).wid

-- a node of the tree that is not the root has this eId
abbrev pub IsNodeOf : Tree → List ℕ → ℕ → Type 0
IsNodeOf t eid id = (has_node t id ≡ true) × ((id ≡ 0 → ⊥) × (eid_at t id ≡ Some eid))
