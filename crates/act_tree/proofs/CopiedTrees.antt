-- The text of a tree is laid down again in another arena.
use Rattle.std.proofs.Common.{◌≡◌, ◌∙◌, sym, ap, subst, ℕ, ◌+◌, ◌<◌, ◌≤◌, false, List, [], ◌∷◌, ◌++◌, length, map, take, get_or, None, arith}
use Rattle.std.proofs.lemmas.List.{map_push, take_more}
use Rattle.act_tree.specs.declared.arena.Arena.{Arena}
use Rattle.act_tree.specs.declared.tree.Tree.{Tree}
use Rattle.act_tree.specs.Arena.{provision_in, below_in, branches_below, branch_from}
use Rattle.act_tree.specs.Branches.{Branch, Branches, branches_of, height, heights}
use Rattle.act_tree.specs.Planted.{IsLaid, AreLaid}
use Rattle.act_tree.specs.Provisions.{Provision}
use Rattle.act_tree.specs.Seen.{tree_view, branch_at, below_at}
use Rattle.act_tree.specs.Slots.{at, number, size}
use Rattle.act_tree.specs.Wids.{wids, all_wids, is_among, one_twice}
use Rattle.act_tree.proofs.Building.{Holds, built}
use Rattle.act_tree.proofs.Frames.{none_left, none_right}
use Rattle.act_tree.proofs.Growing.{laid_more}
use Rattle.act_tree.proofs.Walking.{branch_is, one_low}
use Rattle.act_tree.proofs.WidsDiffer.{text_differs}

-- a child is lower than the node that it stands below
pub child_lower : (t : Tree) (children : List ℕ) (i child node : ℕ) → i < length children → child ≡ get_or children i child → branches_of (map (branch_at t) children) ≡ below_at t node
    → height (branch_at t child) < height (branch_at t node)
child_lower t children i child node within it below =
    let low : height (branch_at t (get_or children i child)) ≤ heights (branches_of (map (branch_at t) children)) = one_low t children i child within in
    let here : height (branch_at t child) ≡ height (branch_at t (get_or children i child)) = ap (λ k. height (branch_at t k)) it in
    let under : heights (branches_of (map (branch_at t) children)) ≡ heights (below_at t node) = ap heights below in
    let over : height (branch_at t node) ≡ heights (below_at t node) + 1 = ap height (branch_is t node) in
    omega arith

-- one more child is laid down
pub child_laid : (t : Tree) (old one new : Arena) (id : ℕ) (ids children : List ℕ) (i child : ℕ) → i < length children → child ≡ get_or children i child
    → AreLaid old one ids (branches_of (map (branch_at t) (take i children))) → IsLaid one new id (branch_at t child)
    → AreLaid old new (ids ++ id ∷ []) (branches_of (map (branch_at t) (take (i + 1) children)))
child_laid t old one new id ids children i child within it some last =
    let P : List (Branch Provision) → Type 0 = λ bs. AreLaid old new (ids ++ id ∷ []) (branches_of bs) in
    let more : map (branch_at t) (take (i + 1) children) ≡ map (branch_at t) (take i children) ++ branch_at t child ∷ [] =
    ap (map (branch_at t)) (take_more children i child within ∙ ap (λ k. take i children ++ k ∷ []) (sym it)) ∙ map_push (branch_at t) (take i children) child in
    subst P (sym more) (laid_more old one new id ids (map (branch_at t) (take i children)) (branch_at t child) some last)

-- where nothing was before, the arena holds the text from then on
pub text_laid : (t : Tree) (old new : Arena) (root id : ℕ) → old.slots.items ≡ [] → ((w : List ℕ) → number old w ≡ None) → root ≡ 0 → IsLaid old new id (branch_at t root) → Holds new (tree_view t).body
unfolding tree_view branch_at
text_laid t old new root id slots numbers first is =
    let a = t.arena in
    let body : Branches Provision = branches_below (size a) (at a) (below_in (at a 0)) in
    let differ : one_twice (wids (branch_from (size a) (at a) 0)) ≡ false = text_differs (at a) (number a) (size a) t.whole in
    let P : ℕ → Type 0 = λ k. IsLaid old new id (branch_from (size a) (at a) k) in
    built old new id (provision_in (at a 0)) body slots numbers t.whole.root
    (sym (ap (λ p. is_among p.wid (all_wids body)) t.whole.root) ∙ none_left _ _ differ)
    (none_right (is_among (provision_in (at a 0)).wid (all_wids body)) _ differ) (subst P first is)
