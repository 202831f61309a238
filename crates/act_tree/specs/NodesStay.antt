-- What it means that the nodes of a tree stay under their numbers.
use Rattle.std.specs.Prelude.{ℕ, ◌≡◌, true}
use Rattle.act_tree.specs.declared.tree.Tree.{Tree}
use Rattle.act_tree.specs.Changes.{is_in}
use Rattle.act_tree.specs.Seen.{tree_view, has_node, provision_at}

-- each node whose wId is still in the text is the node of that wId under its old number
unfoldable pub NodesStay : Tree → Tree → Type 0
NodesStay old new =
    (k : ℕ) → has_node old k ≡ true → is_in (provision_at old k).wid (tree_view new).body ≡ true
    → (has_node new k ≡ true) × ((provision_at new k).wid ≡ (provision_at old k).wid)
