-- Walks over the nodes of a tree, one list of children after another.
use Rattle.std.proofs.Common.{◌≡◌, ◌∙◌, ap, refl, ℕ, zero, suc, ◌+◌, ◌<◌, ◌≤◌, Bool, List, [], ◌∷◌, length, map, drop, get_or, Option, Some, arith}
use Rattle.std.proofs.lemmas.List.{drop_more}
use Rattle.eid_paths.specs.declared.numbering.Numbering.{Numbering}
use Rattle.act_tree.specs.declared.tree.Tree.{Tree}
use Rattle.act_tree.specs.Branches.{Branches, branch, more_branches, branches_of, height, heights}
use Rattle.act_tree.specs.Eids.{eid_below}
use Rattle.act_tree.specs.Faults.{owns, all_owns, is_long}
use Rattle.act_tree.specs.Provisions.{Own, Provision}
use Rattle.act_tree.specs.Seen.{tree_view, provision_at, branch_at, below_at}
use Rattle.act_tree.specs.Surveys.{Surveyed, surveyed, all_surveyed, noted, next_to}

-- the branch of a node is what it says, over what stands below it
pub branch_is : (t : Tree) (i : ℕ) → branch_at t i ≡ branch (provision_at t i) (below_at t i)
unfolding branch_at provision_at below_at
branch_is t i = refl

-- the text of a tree is what stands below its root
pub body_is : (t : Tree) → (tree_view t).body ≡ below_at t 0
unfolding tree_view below_at
body_is t = refl

-- the nodes from one on are that one, and those after it
pub nodes_from : (t : Tree) (ids : List ℕ) (i d : ℕ) → i < length ids
    → branches_of (map (branch_at t) (drop i ids)) ≡ more_branches (branch (provision_at t (get_or ids i d)) (below_at t (get_or ids i d))) (branches_of (map (branch_at t) (drop (i + 1) ids)))
nodes_from t ids i d within =
    ap (λ js. branches_of (map (branch_at t) js)) (drop_more ids i d within)
    ∙ ap (λ b. more_branches b (branches_of (map (branch_at t) (drop (i + 1) ids)))) (branch_is t (get_or ids i d))

-- none of some nodes is higher than they are together
pub one_low : (t : Tree) (ids : List ℕ) (i d : ℕ) → i < length ids → height (branch_at t (get_or ids i d)) ≤ heights (branches_of (map (branch_at t) ids))
one_low t [] i d within = absurd (omega arith)
one_low t (j ∷ ids) zero d within = omega arith
one_low t (j ∷ ids) (suc i) d within = omega (arith, one_low t ids i d (omega arith))

-- what stands below a node is lower than the nodes among which it stands: the measure of a walk
pub below_lower : (t : Tree) (ids : List ℕ) (i d : ℕ) → i < length ids → heights (below_at t (get_or ids i d)) < heights (branches_of (map (branch_at t) ids))
below_lower t ids i d within =
    let low : height (branch_at t (get_or ids i d)) ≤ heights (branches_of (map (branch_at t) ids)) = one_low t ids i d within in
    let same : height (branch_at t (get_or ids i d)) ≡ heights (below_at t (get_or ids i d)) + 1 = ap height (branch_is t (get_or ids i d)) in
    omega arith

-- a node is surveyed: it is noted, and then those below it are surveyed
pub surveyed_one : (t : Tree) (n : Numbering) (above : Option (List ℕ)) (levels depth : ℕ) (id : ℕ) (eid name copied : List ℕ) (long : Bool) (below : Branches Provision) (old noted_now new : Surveyed)
    → depth ≡ next_to levels → eid ≡ eid_below n above (provision_at t id).own.element (provision_at t id).own.num → name ≡ eid → copied ≡ eid → long ≡ is_long (provision_at t id).own
    → below ≡ below_at t id → noted_now ≡ noted old copied long depth → new ≡ all_surveyed n (Some name) depth (all_owns below) noted_now
    → new ≡ surveyed n above levels (owns (branch (provision_at t id) (below_at t id))) old
surveyed_one t n above levels depth id eid name copied long below old noted_now new deep is named copy is_it under noted_is new_is =
    let own : Own = (provision_at t id).own in
    let e : List ℕ = eid_below n above own.element own.num in
    new_is
    ∙ ap (λ s. all_surveyed n (Some name) depth (all_owns below) s) noted_is
    ∙ ap (λ bs. all_surveyed n (Some name) depth (all_owns bs) (noted old copied long depth)) under
    ∙ ap (λ w. all_surveyed n (Some w) depth (all_owns (below_at t id)) (noted old copied long depth)) (named ∙ is)
    ∙ ap (λ w. all_surveyed n (Some e) depth (all_owns (below_at t id)) (noted old w long depth)) (copy ∙ is)
    ∙ ap (λ b. all_surveyed n (Some e) depth (all_owns (below_at t id)) (noted old e b depth)) is_it
    ∙ ap (λ d. all_surveyed n (Some e) d (all_owns (below_at t id)) (noted old e (is_long own) d)) deep

-- the children of a node are lower than the nodes among which it stands
pub children_lower : (t : Tree) (ids children : List ℕ) (i id : ℕ) → i < length ids → id ≡ get_or ids i id → branches_of (map (branch_at t) children) ≡ below_at t id
    → heights (branches_of (map (branch_at t) children)) < heights (branches_of (map (branch_at t) ids))
children_lower t ids children i id within it below =
    let low : heights (below_at t (get_or ids i id)) < heights (branches_of (map (branch_at t) ids)) = below_lower t ids i id within in
    let same : heights (branches_of (map (branch_at t) children)) ≡ heights (below_at t (get_or ids i id)) = ap heights below ∙ ap (λ j. heights (below_at t j)) it in
    omega arith
