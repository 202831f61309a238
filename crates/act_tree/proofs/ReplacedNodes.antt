-- The text in which others stand in the place of a node.
use Rattle.std.proofs.Common.{◌≡◌, ◌∙◌, sym, ap, ℕ, true, false, ◌||◌, cond, List, ◌∷◌, Some}
use Rattle.std.specs.Str.{bytes_eq}
use Rattle.act_tree.specs.declared.tree.Tree.{Tree}
use Rattle.act_tree.specs.Branches.{Branch, Branches, branch, no_branches}
use Rattle.act_tree.specs.Provisions.{Provision}
use Rattle.act_tree.specs.Changes.{root_wid, before, instead, changed, without, removed, substituted, any_holds}
use Rattle.act_tree.specs.Arena.{provision_in, above_in}
use Rattle.act_tree.specs.Seen.{tree_view, has_node, provision_at}
use Rattle.act_tree.specs.Slots.{at, number, size}
use Rattle.act_tree.specs.Wids.{wids, all_wids, is_among}
use Rattle.act_tree.proofs.Texts.{equal_text, other_text}
use Rattle.act_tree.proofs.Climbing.{Seated}
use Rattle.act_tree.proofs.TreeNodes.{node_seated}
use Rattle.act_tree.proofs.TakingAway.{leads_there}
use Rattle.act_tree.proofs.PutIn.{wids_held, all_wids_held}
use Rattle.act_tree.proofs.GraftedTrees.{body_of, held_there}
use Rattle.act_tree.proofs.InsteadOf.{instead_of}

-- none of these wIds is the root's, nor that of a provision
abbrev pub AreNew : Tree → List (List ℕ) → Type 0
AreNew t ws = (v : List ℕ) → is_among v (root_wid ∷ all_wids (tree_view t).body) ≡ true → is_among v ws ≡ false

-- a node that is not the root has not the root's wId
pub not_root : (t : Tree) (i : ℕ) → has_node t i ≡ true → (i ≡ 0 → ⊥) → bytes_eq (provision_at t i).wid root_wid ≡ false
unfolding has_node provision_at
not_root t i node other =
    let w : List ℕ = (provision_in (at t.arena i)).wid in
    let seat : Seated (at t.arena) (number t.arena) (branch (provision_in (at t.arena 0)) (body_of t.arena)) i = node_seated (at t.arena) (number t.arena) (size t.arena) t.whole i node in
    let leads : number t.arena w ≡ Some i = leads_there (at t.arena) (number t.arena) seat.it (above_in (at t.arena i)) i seat.stands in
    other_text w root_wid (λ same.
    let one : Some 0 ≡ Some i = sym t.whole.stands.1.0 ∙ ap (λ p. number t.arena p.wid) t.whole.root ∙ sym (ap (number t.arena) same) ∙ leads in
    let it : 0 ≡ i = cc in
    other (sym it))

-- the wId of a node is not among new ones
pub not_new : (t : Tree) (i : ℕ) (new : Branches Provision) → has_node t i ≡ true → AreNew t (all_wids new) → any_holds (provision_at t i).wid new ≡ false
unfolding has_node provision_at tree_view
not_new t i new node fresh =
    let w : List ℕ = (provision_in (at t.arena i)).wid in
    let root : Branch Provision = branch (provision_in (at t.arena 0)) (body_of t.arena) in
    let seat : Seated (at t.arena) (number t.arena) root i = node_seated (at t.arena) (number t.arena) (size t.arena) t.whole i node in
    let there : is_among w (wids root) ≡ true = wids_held w root ∙ seat.inside w (held_there (at t.arena) (number t.arena) seat.it (above_in (at t.arena i)) i seat.stands) in
    sym (all_wids_held w new) ∙ fresh w (sym (ap (λ p. bytes_eq w p.wid || is_among w (all_wids (body_of t.arena))) t.whole.root) ∙ there)

-- others right before a node that is taken away stand in its place
pub replaced_text : (t : Tree) (i : ℕ) (new : Branches Provision) → has_node t i ≡ true → (i ≡ 0 → ⊥) → AreNew t (all_wids new)
    → removed (provision_at t i).wid (changed (before new) (provision_at t i).wid (tree_view t).body) ≡ substituted (provision_at t i).wid new (tree_view t).body
replaced_text t i new node other fresh =
    let w : List ℕ = (provision_at t i).wid in
    let body : Branches Provision = (tree_view t).body in
    ap (λ c. cond c no_branches (without w (changed (before new) w body))) (not_root t i node other)
    ∙ instead_of w new body (not_new t i new node fresh)
    ∙ sym (ap (λ c. cond c new (changed (instead new) w body)) (not_root t i node other))

-- others in the place of the root are all that is left
pub root_text : (t : Tree) (new : Branches Provision) → new ≡ substituted (provision_at t 0).wid new (tree_view t).body
unfolding provision_at
root_text t new = sym (ap (λ c. cond c new (changed (instead new) (provision_at t 0).wid (tree_view t).body)) (equal_text (provision_at t 0).wid root_wid (ap (λ p. p.wid) t.whole.root)))
