-- What clauses see of a tree: its value, and the nodes that it has.
use Rattle.std.specs.Prelude.{ℕ, Bool, List, Option, map}
use Rattle.act_tree.specs.declared.tree.Tree.{Tree}
use Rattle.act_tree.specs.Branches.{Branch, Branches}
use Rattle.act_tree.specs.Provisions.{Provision}
use Rattle.act_tree.specs.Trees.{TreeValue, changed_once}
use Rattle.act_tree.specs.Changes.{Step, changed, grafted, next_of, removed, substituted}
use Rattle.act_tree.specs.Arena.{branches_below, branch_from, climbs, above_in, below_in, provision_in}
use Rattle.act_tree.specs.Slots.{at, size}

-- the tree's value: its numbering, its limit, the text below its root, and its changes
unfoldable pub tree_view : Tree → TreeValue
tree_view t = record {
  numbering = t.numbering;
  limit = t.limit;
  body = branches_below (size t.arena) (at t.arena) (below_in (at t.arena 0));
  changes = t.changes;
}

-- the tree is own: it can be changed, as one that was built or copied, and not one that was kept
abbrev pub is_own : Tree → Bool
is_own t = t.arena.numbers.is_own

-- the number is one of a node of the tree
unfoldable pub has_node : Tree → ℕ → Bool
has_node t i = climbs (size t.arena) (at t.arena) i

-- how many numbers were given since the arena of the tree was laid down: to the root, and to each provision that came,
-- those that were taken away since included
unfoldable pub laid_down : Tree → ℕ
laid_down t = size t.arena

-- what the node of a number says
unfoldable pub provision_at : Tree → ℕ → Provision
provision_at t i = provision_in (at t.arena i)

-- the numbers of the nodes right below the one of a number
unfoldable pub children_at : Tree → ℕ → List ℕ
children_at t i = below_in (at t.arena i)

-- the number of the node right above the one of a number
unfoldable pub parent_at : Tree → ℕ → ℕ
parent_at t i = above_in (at t.arena i)

-- the node of a number, with all beneath it
unfoldable pub branch_at : Tree → ℕ → Branch Provision
branch_at t i = branch_from (size t.arena) (at t.arena) i

-- what stands below the node of a number
unfoldable pub below_at : Tree → ℕ → Branches Provision
below_at t i = branches_below (size t.arena) (at t.arena) (below_in (at t.arena i))

-- the tree with another text below its root
abbrev pub with_body : Tree → Branches Provision → TreeValue
with_body t body = record (tree_view t) { body = body }

-- the tree after a change that left it this text
abbrev pub once_changed : Tree → Branches Provision → TreeValue
once_changed t body = changed_once (tree_view t) body

-- the text, where a step is made at the node of a number
abbrev pub changed_at : Tree → ℕ → Step → Branches Provision
changed_at t i step = changed step (provision_at t i).wid (tree_view t).body

-- the text without the node of a number, and without all beneath it
abbrev pub removed_at : Tree → ℕ → Branches Provision
removed_at t i = removed (provision_at t i).wid (tree_view t).body

-- the text with others in the place of the node of a number and of all beneath it
abbrev pub substituted_at : Tree → ℕ → Branches Provision → Branches Provision
substituted_at t i new = substituted (provision_at t i).wid new (tree_view t).body

-- the text with others among the children of the node of a number, behind the first so many
abbrev pub grafted_at : Tree → ℕ → ℕ → Branches Provision → Branches Provision
grafted_at t parent place new = grafted (provision_at t parent).wid place new (tree_view t).body

-- pairs of nodes and nums, each with the wId of the node
abbrev pub nums_by_wid : Tree → List (ℕ × List ℕ) → List (List ℕ × List ℕ)
nums_by_wid t pairs = map (λ pair. ((provision_at t pair.0).wid, pair.1)) pairs

-- the next sibling of the node of a number
abbrev pub next_at : Tree → ℕ → Option (Branch Provision)
next_at t i = next_of (provision_at t i).wid (tree_view t).body
