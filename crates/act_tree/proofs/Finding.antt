-- The branch that is found by a wId is the one of the number to which the wId leads.
use Rattle.std.proofs.Common.{◌≡◌, ◌∙◌, sym, ap, refl, ℕ, suc, ◌<◌, ◌≤◌, true, false, cond, ◌||◌, List, [], ◌∷◌, Option, Some, None, inl, inr, arith, ◌↔◌}
use Rattle.std.specs.Str.{bytes_eq}
use Rattle.std.proofs.lemmas.Bool.{cases_Bool}
use Rattle.act_tree.specs.Branches.{Branch, Branches, branch, no_branches, more_branches, height, heights}
use Rattle.act_tree.specs.Provisions.{Provision}
use Rattle.act_tree.specs.Changes.{holds, any_holds, root_wid, sought, found, or_else}
use Rattle.act_tree.specs.Arena.{Laid, provision_in, below_in, branches_below, branch_from, climbs, Stands, StandAll, IsWhole}
use Rattle.act_tree.proofs.Texts.{same_text, other_text}
use Rattle.act_tree.proofs.Frames.{none_left, none_right}
use Rattle.act_tree.proofs.Standing.{branch_is}
use Rattle.act_tree.proofs.TreeNodes.{found_held, found_wid}

mutual
  none_sought : (w : List ℕ) (b : Branch Provision) → holds w b ≡ false → sought w b ≡ None
  none_sought w (branch p below) none =
      ap (λ t. cond t (Some (branch p below)) (found w below)) (none_left (bytes_eq p.wid w) _ none) ∙ none_found w below (none_right (bytes_eq p.wid w) _ none)

  -- where no provision has a wId, none is found
  pub none_found : (w : List ℕ) (bs : Branches Provision) → any_holds w bs ≡ false → found w bs ≡ None
  none_found w no_branches none = refl
  none_found w (more_branches b bs) none =
      ap (λ o. or_else o (found w bs)) (none_sought w b (none_left (holds w b) _ none)) ∙ none_found w bs (none_right (holds w b) _ none)

module _ (at : ℕ → Option Laid) (number : List ℕ → Option ℕ) (w : List ℕ) (i levels : ℕ) (leads : number w ≡ Some i) where
  mutual
    sought_is : (b : Branch Provision) (u k : ℕ) → Stands at number u k b → height b ≤ suc levels → holds w b ≡ true → sought w b ≡ Some (branch_from levels at i)
    sought_is (branch p below) u k s low held =
        elim (cases_Bool (bytes_eq p.wid w)) [
          | inl it ↦
              let one : Some k ≡ Some i = sym s.1.0 ∙ ap number (same_text p.wid w it) ∙ leads in
              let same : k ≡ i = cc in
              ap (λ t. cond t (Some (branch p below)) (found w below)) it ∙ sym (ap (λ c. Some c) (sym (ap (branch_from levels at) same) ∙ branch_is at number (branch p below) levels u k s low))
          | inr other ↦
              let beneath : any_holds w below ≡ true = sym (ap (λ t. t || any_holds w below) other) ∙ held in
              ap (λ t. cond t (Some (branch p below)) (found w below)) other ∙ found_is below k (below_in (at k)) s.1.1 (omega arith) beneath
        ]

    pub found_is : (bs : Branches Provision) (u : ℕ) (ks : List ℕ) → StandAll at number u ks bs → heights bs ≤ suc levels → any_holds w bs ≡ true → found w bs ≡ Some (branch_from levels at i)
    found_is no_branches u ks s low held = absurd cc
    found_is (more_branches b bs) u [] s low held = absurd s
    found_is (more_branches b bs) u (k ∷ ks) s low held =
        elim (cases_Bool (holds w b)) [
          | inl here ↦ ap (λ o. or_else o (found w bs)) (sought_is b u k s.0 (omega arith) here)
          | inr not_here ↦
              let later : any_holds w bs ≡ true = sym (ap (λ t. t || any_holds w bs) not_here) ∙ held in
              ap (λ o. or_else o (found w bs)) (none_sought w b not_here) ∙ found_is bs u ks s.1 (omega arith) later
        ]

module _ (at : ℕ → Option Laid) (number : List ℕ → Option ℕ) (size : ℕ) (whole : IsWhole at number size) where
  -- the root's wId, and no other, leads to the root
  pub root_leads : (w : List ℕ) → w ≡ root_wid → number w ≡ Some 0
  root_leads w is = ap number (is ∙ sym (ap (λ p. p.wid) whole.root)) ∙ whole.stands.1.0

  pub leads_to_root : (w : List ℕ) (i : ℕ) → number w ≡ Some i → (i ≡ 0) ↔ (w ≡ root_wid)
  leads_to_root w i leads = (
    λ root. sym (found_wid at number size whole w i leads) ∙ ap (λ k. (provision_in (at k)).wid) root ∙ ap (λ p. p.wid) whole.root,
    λ is. let one : Some i ≡ Some 0 = sym leads ∙ root_leads w is in cc,
  )

  -- the branch that is found by a wId that leads to a node
  pub found_node : (w : List ℕ) (i : ℕ) → number w ≡ Some i → climbs size at i ≡ true → (i ≡ 0 → ⊥) → found w (branches_below size at (below_in (at 0))) ≡ Some (branch_from size at i)
  found_node w i leads climbed other =
      let apart : bytes_eq w root_wid ≡ false = other_text w root_wid (λ is. other ((leads_to_root w i leads).1 is)) in
      let held : any_holds w (branches_below size at (below_in (at 0))) ≡ true =
      sym (ap (λ t. t || any_holds w (branches_below size at (below_in (at 0)))) apart) ∙ found_held at number size whole w i leads climbed in
      let low : heights (branches_below size at (below_in (at 0))) < size = whole.low in
      found_is at number w i size leads (branches_below size at (below_in (at 0))) 0 (below_in (at 0)) whole.stands.1.1 (omega arith) held
