-- How deep a provision stands is how many steps the way up from it takes.
use Rattle.std.proofs.Common.{◌≡◌, ◌∙◌, sym, ap, refl, ℕ, zero, suc, ◌+◌, ◌==◌, true, false, ◌||◌, ◌&&◌, cond, List, [], ◌∷◌, Option, Some, inl, inr, arith}
use Rattle.std.specs.Str.{bytes_eq}
use Rattle.std.proofs.lemmas.Bool.{cases_Bool, or_cases, and_parts, eq-eqb, ne_eqb}
use Rattle.eid_paths.specs.declared.numbering.Numbering.{Numbering}
use Rattle.act_tree.specs.declared.tree.Tree.{Tree}
use Rattle.act_tree.specs.Arena.{Laid, provision_in, above_in, below_in, branches_below, hangs_on, climbs, Stands, StandAll, IsWhole}
use Rattle.act_tree.specs.Branches.{Branch, Branches, branch, no_branches, more_branches}
use Rattle.act_tree.specs.Changes.{holds, any_holds, root_wid}
use Rattle.act_tree.specs.Depths.{depth_in, depth_of, steps_up}
use Rattle.act_tree.specs.Provisions.{Provision}
use Rattle.act_tree.specs.Seen.{tree_view, has_node, provision_at, parent_at}
use Rattle.act_tree.specs.Slots.{at, number, size}
use Rattle.act_tree.proofs.EidsDiffer.{Lower, LowerAll, lower_below, lower_first, lower_rest, body_lower, not_root}
use Rattle.act_tree.proofs.Finding.{leads_to_root}
use Rattle.act_tree.proofs.Frames.{none_left, none_right}
use Rattle.act_tree.proofs.KeptNumbers.{wid_there}
use Rattle.act_tree.proofs.StayingNodes.{leads_node}
use Rattle.act_tree.proofs.Texts.{same_text}
use Rattle.act_tree.proofs.TreeNodes.{one_climbs}

-- from the root there are none
pub steps_root : (f : ℕ) (at : ℕ → Option Laid) (i : ℕ) → (i == 0) ≡ true → steps_up f at i ≡ 0
steps_root zero at i root = omega arith
steps_root (suc f) at i root = ap (λ t. cond t 0 (steps_up f at (above_in (at i)) + 1)) root

-- who climbs in so many steps takes no more where there are more
steps_on : (f : ℕ) (at : ℕ → Option Laid) (i : ℕ) → climbs f at i ≡ true → steps_up f at i ≡ steps_up (suc f) at i
steps_on zero at i climbed = absurd cc
steps_on (suc f) at i climbed =
    elim (or_cases (i == 0) (hangs_on i (at i) && climbs f at (above_in (at i))) climbed) [
      | inl root ↦ steps_root (suc f) at i root ∙ sym (steps_root (suc (suc f)) at i root)
      | inr on ↦ ap (λ k. cond (i == 0) 0 (k + 1)) (steps_on f at (above_in (at i)) (and_parts _ _ on).1)
    ]

-- from a number that is not the root it is one step more than from the one above
step_up : (f : ℕ) (at : ℕ → Option Laid) (i : ℕ) → climbs f at i ≡ true → (i ≡ 0 → ⊥) → steps_up f at i ≡ steps_up f at (above_in (at i)) + 1
step_up zero at i climbed other = absurd cc
step_up (suc f) at i climbed other =
    let on : (hangs_on i (at i) && climbs f at (above_in (at i))) ≡ true = sym (ap (λ t. t || (hangs_on i (at i) && climbs f at (above_in (at i)))) (ne_eqb i 0 other)) ∙ climbed in
    ap (λ t. cond t 0 (steps_up f at (above_in (at i)) + 1)) (ne_eqb i 0 other) ∙ ap (λ k. k + 1) (steps_on f at (above_in (at i)) (and_parts _ _ on).1)

module _ (at : ℕ → Option Laid) (number : List ℕ → Option ℕ) (size : ℕ) (whole : IsWhole at number size) (n : Numbering) where
  -- how many steps the way up from a number takes
  abbrev up : ℕ → ℕ
  up i = steps_up size at i

  -- a provision is one step deeper than the number above it
  pub one_up : (p : Provision) (below : Branches Provision) (u k : ℕ) → Stands at number u k (branch p below) → Lower at number size whole n (branch p below) → up k ≡ up u + 1
  one_up p below u k s l =
      step_up size at k (one_climbs at number size whole (branch p below) u k s l.inside) (not_root at number size whole n (branch p below) u k s l)
      ∙ ap (λ o. up (above_in o) + 1) s.0

  mutual
    deep_in : (b : Branch Provision) (u k i : ℕ) (w : List ℕ) → Stands at number u k b → Lower at number size whole n b → holds w b ≡ true → number w ≡ Some i → up i ≡ up u + depth_in w b
    deep_in (branch p below) u k i w s l held leads =
        let mine : up k ≡ up u + 1 = one_up p below u k s l in
        elim (cases_Bool (bytes_eq p.wid w)) [
          | inl it ↦
              let one : Some k ≡ Some i = sym s.1.0 ∙ ap number (same_text p.wid w it) ∙ leads in
              let same : k ≡ i = cc in
              ap up (sym same) ∙ mine ∙ sym (ap (λ t. up u + cond t 1 (depth_of w below + 1)) it)
          | inr other ↦
              let beneath : any_holds w below ≡ true = sym (ap (λ t. t || any_holds w below) other) ∙ held in
              let rest : up i ≡ up k + depth_of w below = deep_among below k i w (below_in (at k)) s.1.1 (lower_below at number size whole n p below l) beneath leads in
              let sum : up i ≡ up u + (depth_of w below + 1) = omega arith in
              sum ∙ sym (ap (λ t. up u + cond t 1 (depth_of w below + 1)) other)
        ]

    -- the way up from a provision of a text is as much longer as the provision is deep there
    deep_among : (bs : Branches Provision) (u i : ℕ) (w : List ℕ) (ids : List ℕ) → StandAll at number u ids bs → LowerAll at number size whole n bs → any_holds w bs ≡ true → number w ≡ Some i → up i ≡ up u + depth_of w bs
    deep_among no_branches u i w ids s l held leads = absurd cc
    deep_among (more_branches b bs) u i w [] s l held leads = absurd s
    deep_among (more_branches b bs) u i w (k ∷ ids) s l held leads =
        elim (cases_Bool (holds w b)) [
          | inl here ↦
              deep_in b u k i w s.0 (lower_first at number size whole n b bs l) here leads ∙ sym (ap (λ t. up u + cond t (depth_in w b) (depth_of w bs)) here)
          | inr not_here ↦
              let later : any_holds w bs ≡ true = sym (ap (λ t. t || any_holds w bs) not_here) ∙ held in
              deep_among bs u i w ids s.1 (lower_rest at number size whole n b bs l) later leads ∙ sym (ap (λ t. up u + cond t (depth_in w b) (depth_of w bs)) not_here)
        ]

none_deep : (w : List ℕ) (bs : Branches Provision) → any_holds w bs ≡ false → depth_of w bs ≡ 0
none_deep w no_branches none = refl
none_deep w (more_branches b bs) none =
    ap (λ t. cond t (depth_in w b) (depth_of w bs)) (none_left (holds w b) _ none) ∙ none_deep w bs (none_right (holds w b) _ none)

-- the depth of a node's wId is the number of steps up from it
pub depth_is : (t : Tree) (i : ℕ) → has_node t i ≡ true → depth_of (provision_at t i).wid (tree_view t).body ≡ steps_up (size t.arena) (at t.arena) i
unfolding has_node tree_view provision_at
depth_is t i node =
    let w : List ℕ = (provision_in (at t.arena i)).wid in
    let body : Branches Provision = branches_below (size t.arena) (at t.arena) (below_in (at t.arena 0)) in
    let leads : number t.arena w ≡ Some i = leads_node t.arena t.whole i node in
    elim (cases_Bool (any_holds w body)) [
      | inl held ↦
          let deep : steps_up (size t.arena) (at t.arena) i ≡ steps_up (size t.arena) (at t.arena) 0 + depth_of w body =
          deep_among (at t.arena) (number t.arena) (size t.arena) t.whole t.numbering body 0 i w (below_in (at t.arena 0)) t.whole.stands.1.1 (body_lower (at t.arena) (number t.arena) (size t.arena) t.whole t.numbering) held leads in
          omega (arith, deep, steps_root (size t.arena) (at t.arena) 0 refl)
      | inr none ↦
          let root : bytes_eq w root_wid ≡ true = elim (or_cases (bytes_eq w root_wid) (any_holds w body) (wid_there t i node)) [ inl root ↦ root | inr held ↦ absurd cc ] in
          let zero_is : i ≡ 0 = (leads_to_root (at t.arena) (number t.arena) (size t.arena) t.whole w i leads).1 (same_text w root_wid root) in
          none_deep w body none ∙ sym (steps_root (size t.arena) (at t.arena) i (eq-eqb i 0 zero_is))
    ]

-- a node that is not the root is one deeper than the node above it
pub deeper : (t : Tree) (i : ℕ) → has_node t i ≡ true → (i ≡ 0 → ⊥) → has_node t (parent_at t i) ≡ true
    → depth_of (provision_at t i).wid (tree_view t).body ≡ depth_of (provision_at t (parent_at t i)).wid (tree_view t).body + 1
unfolding has_node parent_at
deeper t i node other over =
    depth_is t i node ∙ step_up (size t.arena) (at t.arena) i node other ∙ ap (λ k. k + 1) (sym (depth_is t (above_in (at t.arena i)) over))
