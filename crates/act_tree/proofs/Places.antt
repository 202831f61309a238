-- What is grafted at the place of a provision among its siblings stands right before it, and at the next place right behind it.
use Rattle.std.proofs.Common.{◌≡◌, ◌∙◌, sym, ap, refl, ℕ, suc, ◌+◌, ◌<◌, ◌==◌, true, false, ◌||◌, cond, List, [], ◌∷◌, ◌++◌, length, get_or, Option, Some, inl, inr, arith}
use Rattle.std.specs.List.{list_any}
use Rattle.std.specs.Prelude.{slice_get}
use Rattle.std.proofs.lemmas.Bool.{cases_Bool, eq-eqb, eqb-true}
use Rattle.act_tree.specs.declared.arena.Slot.{Slot}
use Rattle.act_tree.specs.declared.arena.Arena.{Arena}
use Rattle.act_tree.specs.declared.tree.Tree.{Tree}
use Rattle.act_tree.specs.Seen.{tree_view, has_node, provision_at, children_at, parent_at}
use Rattle.act_tree.specs.Branches.{Branch, Branches, branch, no_branches, more_branches, heights}
use Rattle.act_tree.specs.Provisions.{Provision}
use Rattle.act_tree.specs.Changes.{Step, before, after, changed, joined, put_in, grafted}
use Rattle.act_tree.specs.Arena.{Laid, provision_in, above_in, below_in, branch_from, hangs_on, climbs, StandAll, IsWhole}
use Rattle.act_tree.specs.Slots.{at, number, size}
use Rattle.act_tree.specs.Grafted.{place_from}
use Rattle.act_tree.proofs.Standing.{one_branch}
use Rattle.act_tree.proofs.Times.{Between, first_other, later_once}
use Rattle.act_tree.proofs.Climbing.{listed_above}
use Rattle.act_tree.proofs.TreeNodes.{node_stands}
use Rattle.act_tree.proofs.TakingAway.{Sits, sits, spot_of, once_of, step_there, below_of, says_of, grafted_as, above_climbs}
use Rattle.act_tree.proofs.SlotsOfNodes.{node_slot}
use Rattle.act_tree.proofs.Renewals.{renewed_in}
use Rattle.act_tree.proofs.Spots.{Spot}
use Rattle.act_tree.proofs.GraftedTrees.{body_of}

pub place_low : (i : ℕ) (ks : List ℕ) → list_any (λ j. j == i) ks ≡ true → place_from 0 i ks < length ks
place_low i [] found = absurd cc
place_low i (k ∷ ks) found =
    elim (cases_Bool (k == i)) [
      | inl it ↦ (let here : cond (k == i) 0 (suc (place_from 0 i ks)) ≡ 0 = ap (λ t. cond t 0 (suc (place_from 0 i ks))) it in omega arith)
      | inr other ↦
          let later : list_any (λ j. j == i) ks ≡ true = sym (ap (λ t. t || list_any (λ j. j == i) ks) other) ∙ found in
          let low : place_from 0 i ks < length ks = place_low i ks later in
          let here : cond (k == i) 0 (suc (place_from 0 i ks)) ≡ suc (place_from 0 i ks) = ap (λ t. cond t 0 (suc (place_from 0 i ks))) other in
          omega arith
    ]

-- a number stands at its place
place_holds : (i : ℕ) (ks : List ℕ) → list_any (λ j. j == i) ks ≡ true → slice_get ks (place_from 0 i ks) ≡ Some i
place_holds i [] found = absurd cc
place_holds i (k ∷ ks) found =
    elim (cases_Bool (k == i)) [
      | inl it ↦ ap (λ t. slice_get (k ∷ ks) (cond t 0 (suc (place_from 0 i ks)))) it ∙ ap Some (eqb-true k i it)
      | inr other ↦
          let later : list_any (λ j. j == i) ks ≡ true = sym (ap (λ t. t || list_any (λ j. j == i) ks) other) ∙ found in
          ap (λ t. slice_get (k ∷ ks) (cond t 0 (suc (place_from 0 i ks)))) other ∙ place_holds i ks later
    ]

pub place_next : (i : ℕ) (ks : List ℕ) → place_from 1 i ks ≡ place_from 0 i ks + 1
place_next i [] = refl
place_next i (k ∷ ks) =
    elim (k == i) as (λ t. cond t 1 (suc (place_from 1 i ks)) ≡ cond t 0 (suc (place_from 0 i ks)) + 1) [
      | true ↦ refl
      | false ↦ omega (arith, place_next i ks)
    ]

-- others at the place of a number, or behind it, stand behind the branches of the numbers in front
put_there : (at : ℕ → Option Laid) (number : List ℕ → Option ℕ) (u i start : ℕ) (front back : List ℕ) (before rest new : Branches Provision) → StandAll at number u front before → Between i front back
    → put_in (place_from start i (front ++ i ∷ back)) new (joined before rest) ≡ joined before (put_in start new rest)
put_there at number u i start [] back no_branches rest new s b = ap (λ t. put_in (cond t start (suc (place_from start i back))) new rest) (eq-eqb i i refl)
put_there at number u i start (j ∷ front) back no_branches rest new s b = absurd s
put_there at number u i start [] back (more_branches c before) rest new s b = absurd s
put_there at number u i start (j ∷ front) back (more_branches c before) rest new s b =
    ap (λ t. put_in (cond t start (suc (place_from start i (front ++ i ∷ back)))) new (more_branches c (joined before rest))) (first_other i j front back b)
    ∙ ap (more_branches c) (put_there at number u i start front back before rest new s.1 (later_once i j front back b))

pub placed : (a : Arena) (i : ℕ) → IsWhole (at a) (number a) (size a) → climbs (size a) (at a) i ≡ true → (i ≡ 0 → ⊥)
    → (start : ℕ) (step : Step) (new : Branches Provision) → ((b : Branch Provision) (bs : Branches Provision) → put_in start new (more_branches b bs) ≡ step b bs)
    → grafted (provision_in (at a (above_in (at a i)))).wid (place_from start i (below_in (at a (above_in (at a i))))) new (body_of a) ≡ changed step (provision_in (at a i)).wid (body_of a)
placed a i whole climbed other start step new puts =
    let p : ℕ = above_in (at a i) in
    let low : heights (body_of a) < size a = whole.low in
    let up : (hangs_on i (at a i) ≡ true) × (climbs (size a) (at a) p ≡ true) = above_climbs (at a) (size a) i climbed other (omega arith) in
    let it : Sits (at a) (number a) i = sits (at a) (number a) (size a) whole i climbed other in
    let m : Spot (at a) (number a) p i (below_in (at a p)) it.siblings = spot_of (at a) (number a) i it in
    let over : branch it.over it.siblings ≡ branch_from (size a) (at a) p =
    one_branch (at a) (number a) (branch it.over it.siblings) (branch_from (size a) (at a) p) (above_in (at a p)) (above_in (at a p)) p it.stands (node_stands (at a) (number a) (size a) whole p up.1) in
    let place : ℕ = place_from start i (below_in (at a p)) in
    let new_list : put_in place new it.siblings ≡ joined m.before (step (branch m.says m.below) m.after) =
    ap (λ ks. put_in (place_from start i ks) new it.siblings) m.list ∙ ap (put_in (place_from start i (m.front ++ i ∷ m.back)) new) m.text
    ∙ put_there (at a) (number a) p i start m.front m.back m.before (more_branches (branch m.says m.below) m.after) new m.front_stand (once_of (at a) (number a) i it m)
    ∙ ap (joined m.before) (puts (branch m.says m.below) m.after) in
    let root : Branch Provision = branch_from (size a) (at a) 0 in
    ap below_of (
    sym (grafted_as (at a) (number a) (size a) whole p up.1 place new)
    ∙ sym (ap (λ b. renewed_in (says_of b).own (put_in place new (below_of b)) (says_of b).wid root) over)
    ∙ ap (λ bs. renewed_in it.over.own bs it.over.wid root) new_list
    ∙ sym (step_there (at a) (number a) i it m step root 0 0 whole.stands))

-- the number above a node that is not the root is a node
pub parent_climbs : (t : Tree) (i j : ℕ) → has_node t i ≡ true → (i ≡ 0 → ⊥) → j ≡ parent_at t i → has_node t j ≡ true
unfolding has_node parent_at
parent_climbs t i j node other up =
    let low : heights (body_of t.arena) < size t.arena = t.whole.low in
    ap (climbs (size t.arena) (at t.arena)) up ∙ (above_climbs (at t.arena) (size t.arena) i node other (omega arith)).1

-- it is what the slot of the node says
pub parent_is : (t : Tree) (i j : ℕ) (s : Slot) → has_node t i ≡ true → j ≡ i → s ≡ get_or t.arena.slots.items j s → s.above ≡ parent_at t i
unfolding parent_at
parent_is t i j s node place it = sym (ap above_in (node_slot t i j s node place it))

-- a node is listed below the one above it
listed_there : (t : Tree) (i j : ℕ) (ks : List ℕ) → has_node t i ≡ true → (i ≡ 0 → ⊥) → j ≡ parent_at t i → ks ≡ children_at t j → list_any (λ l. l == i) ks ≡ true
unfolding has_node children_at parent_at
listed_there t i j ks node other up kids =
    let low : heights (body_of t.arena) < size t.arena = t.whole.low in
    ap (list_any (λ l. l == i)) (kids ∙ ap (λ l. below_in (at t.arena l)) up)
    ∙ listed_above (at t.arena) i (at t.arena i) (above_climbs (at t.arena) (size t.arena) i node other (omega arith)).0 (t.whole.hung i)

pub place_within : (t : Tree) (i j n : ℕ) (ks : List ℕ) → has_node t i ≡ true → (i ≡ 0 → ⊥) → j ≡ parent_at t i → ks ≡ children_at t j → n ≡ place_from 0 i ks → n < length (children_at t j)
place_within t i j n ks node other up kids is =
    let within : place_from 0 i ks < length ks = place_low i ks (listed_there t i j ks node other up kids) in
    let same : length ks ≡ length (children_at t j) = ap length kids in
    omega arith

-- and stands there at its place
pub placed_child : (t : Tree) (i j n : ℕ) (ks : List ℕ) → has_node t i ≡ true → (i ≡ 0 → ⊥) → j ≡ parent_at t i → ks ≡ children_at t j → n ≡ place_from 0 i ks → slice_get (children_at t j) n ≡ Some i
placed_child t i j n ks node other up kids is =
    ap (λ ls. slice_get ls n) (sym kids) ∙ ap (slice_get ks) is ∙ place_holds i ks (listed_there t i j ks node other up kids)

-- the parent of a node has it among its children
pub child_there : (t : Tree) (i j : ℕ) → has_node t i ≡ true → (i ≡ 0 → ⊥) → j ≡ parent_at t i → (place : ℕ) × (slice_get (children_at t j) place ≡ Some i)
child_there t i j node other up =
    (place_from 0 i (children_at t j), placed_child t i j (place_from 0 i (children_at t j)) (children_at t j) node other up refl refl)

pub placed_before : (t : Tree) (i j n : ℕ) (ks : List ℕ) → has_node t i ≡ true → (i ≡ 0 → ⊥) → j ≡ parent_at t i → ks ≡ children_at t j → n ≡ place_from 0 i ks
    → (new : Branches Provision) → grafted (provision_at t j).wid n new (tree_view t).body ≡ changed (before new) (provision_at t i).wid (tree_view t).body
unfolding has_node children_at provision_at tree_view parent_at
placed_before t i j n ks node other up kids is new =
    ap (λ m. grafted (provision_in (at t.arena j)).wid m new (body_of t.arena)) (is ∙ ap (place_from 0 i) kids)
    ∙ ap (λ l. grafted (provision_in (at t.arena l)).wid (place_from 0 i (below_in (at t.arena l))) new (body_of t.arena)) up
    ∙ placed t.arena i t.whole node other 0 (before new) new (λ b bs. refl)

pub placed_after : (t : Tree) (i j n : ℕ) (ks : List ℕ) → has_node t i ≡ true → (i ≡ 0 → ⊥) → j ≡ parent_at t i → ks ≡ children_at t j → n ≡ place_from 0 i ks
    → (new : Branches Provision) → grafted (provision_at t j).wid (n + 1) new (tree_view t).body ≡ changed (after new) (provision_at t i).wid (tree_view t).body
unfolding has_node children_at provision_at tree_view parent_at
placed_after t i j n ks node other up kids is new =
    ap (λ m. grafted (provision_in (at t.arena j)).wid (m + 1) new (body_of t.arena)) (is ∙ ap (place_from 0 i) kids)
    ∙ ap (λ l. grafted (provision_in (at t.arena l)).wid (place_from 0 i (below_in (at t.arena l)) + 1) new (body_of t.arena)) up
    ∙ ap (λ m. grafted (provision_in (at t.arena (above_in (at t.arena i)))).wid m new (body_of t.arena)) (sym (place_next i (below_in (at t.arena (above_in (at t.arena i))))))
    ∙ placed t.arena i t.whole node other 1 (after new) new (λ b bs. refl)
