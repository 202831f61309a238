-- What stands in a tree nests no deeper than the tree.
use Rattle.std.proofs.Common.{◌≡◌, ap, ℕ, ◌+◌, ◌≤◌, true, cond, List, map, inl, inr, arith}
use Rattle.std.proofs.lemmas.Bool.{cases_eq}
use Rattle.act_tree.specs.declared.limits.TheConstants.{MAX_DEPTH}
use Rattle.act_tree.specs.declared.tree.Tree.{Tree}
use Rattle.act_tree.specs.Arena.{provision_in, below_in, branches_below, branch_from}
use Rattle.act_tree.specs.Branches.{Branches, branches_of, heights}
use Rattle.act_tree.specs.Changes.{before, instead, changed, substituted}
use Rattle.act_tree.specs.Depths.{depth_of, steps_up}
use Rattle.act_tree.specs.Provisions.{Provision}
use Rattle.act_tree.specs.Seen.{tree_view, has_node, provision_at, branch_at, below_at}
use Rattle.act_tree.specs.Slots.{at, number, size}
use Rattle.act_tree.proofs.Finding.{found_node}
use Rattle.act_tree.proofs.HowDeep.{depth_is}
use Rattle.act_tree.proofs.LowTexts.{before_low, depth_low, found_low}
use Rattle.act_tree.proofs.ReplacedNodes.{not_root}
use Rattle.act_tree.proofs.StayingNodes.{leads_node}
use Rattle.act_tree.proofs.Walking.{body_is}
use Rattle.act_tree.proofs.WidsDiffer.{wids_differ}

-- the text of a tree
pub body_low : (t : Tree) → heights (tree_view t).body ≤ MAX_DEPTH
unfolding tree_view
body_low t = t.low

-- a node that is not the root, with all beneath it
pub node_low : (t : Tree) (i : ℕ) → has_node t i ≡ true → (i ≡ 0 → ⊥) → heights (below_at t i) + 1 ≤ MAX_DEPTH
unfolding has_node below_at
node_low t i node other =
    let w : List ℕ = (provision_in (at t.arena i)).wid in
    let body : Branches Provision = branches_below (size t.arena) (at t.arena) (below_in (at t.arena 0)) in
    let low : heights body ≤ MAX_DEPTH = t.low in
    omega (arith, low, found_low w body (branch_from (size t.arena) (at t.arena) i) (found_node (at t.arena) (number t.arena) (size t.arena) t.whole w i (leads_node t.arena t.whole i node) node other))

-- what stands below a node
pub below_low : (t : Tree) (i : ℕ) → has_node t i ≡ true → heights (below_at t i) ≤ MAX_DEPTH
below_low t i node =
    elim (cases_eq i 0) [
      | inl zero ↦ omega (arith, body_low t, ap heights (body_is t), ap (λ k. heights (below_at t k)) zero)
      | inr other ↦ omega (arith, node_low t i node other)
    ]

-- the nodes right below one, with all beneath them
pub children_low : (t : Tree) (i : ℕ) (children : List ℕ) → has_node t i ≡ true → branches_of (map (branch_at t) children) ≡ below_at t i → heights (branches_of (map (branch_at t) children)) ≤ MAX_DEPTH
children_low t i children node is = omega (arith, ap heights is, below_low t i node)

-- how deep a provision stands
pub deep_low : (t : Tree) (w : List ℕ) → depth_of w (tree_view t).body ≤ MAX_DEPTH
deep_low t w = omega (arith, depth_low w (tree_view t).body, body_low t)

-- the way up from a node
pub steps_low : (t : Tree) (i : ℕ) → has_node t i ≡ true → steps_up (size t.arena) (at t.arena) i ≤ MAX_DEPTH
steps_low t i node = omega (arith, depth_is t i node, deep_low t (provision_at t i).wid)

-- the text with others right before a node, where it is low with them in its place
pub beside_low : (t : Tree) (i : ℕ) (new : Branches Provision) → has_node t i ≡ true → (i ≡ 0 → ⊥) → heights (substituted (provision_at t i).wid new (tree_view t).body) ≤ MAX_DEPTH
    → heights (changed (before new) (provision_at t i).wid (tree_view t).body) ≤ MAX_DEPTH
beside_low t i new node other low =
    let w : List ℕ = (provision_at t i).wid in
    let body : Branches Provision = (tree_view t).body in
    let is : heights (substituted w new body) ≡ heights (changed (instead new) w body) = ap (λ c. heights (cond c new (changed (instead new) w body))) (not_root t i node other) in
    omega (arith, low, is, before_low new w body (wids_differ t), body_low t)
