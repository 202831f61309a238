-- The nodes of a whole arena: each has a slot, its children are nodes, and a wId leads to the node that has it.
use Rattle.std.proofs.Common.{◌≡◌, ◌∙◌, sym, ap, refl, subst, ℕ, suc, ◌<◌, ◌≤◌, true, false, ◌||◌, List, [], ◌∷◌, map, Option, Some, None, inl, inr, arith}
use Rattle.std.specs.List.{All}
use Rattle.std.specs.Str.{bytes_eq}
use Rattle.std.proofs.lemmas.Bool.{cases_Bool}
use Rattle.std.proofs.lemmas.List.Elements.{All-nil, All-cons}
use Rattle.act_tree.specs.Branches.{Branch, Branches, branch, no_branches, more_branches, branches_of, height, heights}
use Rattle.act_tree.specs.Provisions.{Provision}
use Rattle.act_tree.specs.Changes.{holds, any_holds, is_in, root_wid}
use Rattle.act_tree.specs.Arena.{Laid, provision_in, above_in, below_in, name_in, branches_below, branch_from, climbs, Stands, StandAll, IsWhole}
use Rattle.act_tree.proofs.Texts.{bytes_eq_sym, equal_text}
use Rattle.act_tree.proofs.Standing.{branch_is, branches_are}
use Rattle.act_tree.proofs.Climbing.{Seated, climber_seated, climbs_more, found_climbs, has_number}
use Rattle.act_tree.proofs.Frames.{or_left, or_right}
use Rattle.act_tree.proofs.PutIn.{not_beneath}

module _ (at : ℕ → Option Laid) (number : List ℕ → Option ℕ) (size : ℕ) (whole : IsWhole at number size) where
  pub root_climbs : climbs size at 0 ≡ true
  root_climbs = climbs_more 1 size at 0 (let low : heights (branches_below size at (below_in (at 0))) < size = whole.low in omega arith) refl

  -- the branch of a node, as it stands in the text
  pub node_seated : (i : ℕ) → climbs size at i ≡ true → Seated at number (branch_from size at 0) i
  node_seated i climbed = climber_seated at number (branch_from size at 0) whole.stands whole.hung size i climbed

  -- a node stands with what is read below it, which is in the text
  read_is : (i : ℕ) (seat : Seated at number (branch_from size at 0) i) → branch_from size at i ≡ seat.it
  read_is i seat =
      let low : heights (branches_below size at (below_in (at 0))) < size = whole.low in
      let lower : height seat.it ≤ height (branch_from size at 0) = seat.low in
      branch_is at number seat.it size (above_in (at i)) i seat.stands (omega arith)

  pub node_stands : (i : ℕ) → climbs size at i ≡ true → Stands at number (above_in (at i)) i (branch_from size at i)
  node_stands i climbed =
      let seat : Seated at number (branch_from size at 0) i = node_seated i climbed in
      let P : Branch Provision → Type 0 = λ b. Stands at number (above_in (at i)) i b in
      subst P (sym (read_is i seat)) seat.stands

  pub node_inside : (i : ℕ) → climbs size at i ≡ true → (w : List ℕ) → holds w (branch_from size at i) ≡ true → holds w (branch_from size at 0) ≡ true
  node_inside i climbed w held = let seat : Seated at number (branch_from size at 0) i = node_seated i climbed in seat.inside w (sym (ap (holds w) (read_is i seat)) ∙ held)

  laid_there : (b : Branch Provision) (u i : ℕ) → Stands at number u i b → (x : Laid) × (at i ≡ Some x)
  laid_there (branch p below) u i s = (record { provision = p; above = u; below = below_in (at i) }, s.0)

  -- something is laid down for a node
  pub node_laid : (i : ℕ) → climbs size at i ≡ true → (x : Laid) × (at i ≡ Some x)
  node_laid i climbed = let seat : Seated at number (branch_from size at 0) i = node_seated i climbed in laid_there seat.it (above_in (at i)) i seat.stands

  below_standing : (b : Branch Provision) (u i : ℕ) → Stands at number u i b → height b ≤ suc size → branches_of (map (branch_from size at) (below_in (at i))) ≡ branches_below size at (below_in (at i))
  below_standing (branch p below) u i s low =
      branches_are at number below (suc size) i (below_in (at i)) s.1.1 (omega arith) ∙ sym (branches_are at number below size i (below_in (at i)) s.1.1 (omega arith))

  -- the branches of a node's children are what stands below it
  pub children_branches : (i : ℕ) → climbs size at i ≡ true → branches_of (map (branch_from size at) (below_in (at i))) ≡ branches_below size at (below_in (at i))
  children_branches i climbed =
      let seat : Seated at number (branch_from size at 0) i = node_seated i climbed in
      let low : heights (branches_below size at (below_in (at 0))) < size = whole.low in
      let lower : height seat.it ≤ height (branch_from size at 0) = seat.low in
      below_standing seat.it (above_in (at i)) i seat.stands (omega arith)

  pub one_climbs : (b : Branch Provision) (u i : ℕ) → Stands at number u i b → ((w : List ℕ) → holds w b ≡ true → holds w (branch_from size at 0) ≡ true) → climbs size at i ≡ true
  one_climbs (branch p below) u i s inside = found_climbs at number size whole p.wid i (inside p.wid (or_left _ _ (equal_text p.wid p.wid refl))) s.1.0

  all_climb : (bs : Branches Provision) (u : ℕ) (ids : List ℕ) → StandAll at number u ids bs → ((w : List ℕ) → any_holds w bs ≡ true → holds w (branch_from size at 0) ≡ true) → All (λ k. climbs size at k ≡ true) ids
  all_climb no_branches u [] s inside = All-nil _
  all_climb no_branches u (i ∷ ids) s inside = absurd s
  all_climb (more_branches b bs) u [] s inside = absurd s
  all_climb (more_branches b bs) u (i ∷ ids) s inside =
      All-cons (λ k. climbs size at k ≡ true) i ids (one_climbs b u i s.0 (λ w held. inside w (or_left _ _ held))) (all_climb bs u ids s.1 (λ w held. inside w (or_right (holds w b) _ held)))

  below_climb : (b : Branch Provision) (u i : ℕ) → Stands at number u i b → ((w : List ℕ) → holds w b ≡ true → holds w (branch_from size at 0) ≡ true) → All (λ k. climbs size at k ≡ true) (below_in (at i))
  below_climb (branch p below) u i s inside = all_climb below i (below_in (at i)) s.1.1 (λ w held. inside w (or_right (bytes_eq p.wid w) _ held))

  -- the children of a node are nodes
  pub children_climb : (i : ℕ) → climbs size at i ≡ true → All (λ k. climbs size at k ≡ true) (below_in (at i))
  children_climb i climbed =
      let seat : Seated at number (branch_from size at 0) i = node_seated i climbed in
      below_climb seat.it (above_in (at i)) i seat.stands seat.inside

  -- a wId is the root's or a provision's exactly if it is held at or below the root
  pub is_in-holds : (w : List ℕ) → is_in w (branches_below size at (below_in (at 0))) ≡ holds w (branch_from size at 0)
  is_in-holds w =
      ap (λ b. b || any_holds w (branches_below size at (below_in (at 0)))) (bytes_eq_sym w root_wid ∙ sym (ap (λ p. bytes_eq p.wid w) whole.root))

  pub not_found : (w : List ℕ) → number w ≡ None → is_in w (branches_below size at (below_in (at 0))) ≡ false
  not_found w none =
      elim (cases_Bool (is_in w (branches_below size at (below_in (at 0))))) [
        | inl held ↦
            let it : (k : ℕ) × (number w ≡ Some k) = has_number at number (branch_from size at 0) w 0 0 whole.stands (sym (is_in-holds w) ∙ held) in
            let leads : number w ≡ Some it.0 = it.1 in
            absurd cc
        | inr told ↦ told
      ]

  pub not_climbing : (w : List ℕ) (i : ℕ) → number w ≡ Some i → climbs size at i ≡ false → is_in w (branches_below size at (below_in (at 0))) ≡ false
  not_climbing w i leads off =
      elim (cases_Bool (is_in w (branches_below size at (below_in (at 0))))) [
        | inl held ↦ absurd (let on : climbs size at i ≡ true = found_climbs at number size whole w i (sym (is_in-holds w) ∙ held) leads in cc)
        | inr told ↦ told
      ]

  own_wid : (o : Option Laid) (w : List ℕ) → name_in o ≡ Some w → (provision_in o).wid ≡ w
  own_wid None w named = absurd cc
  own_wid (Some x) w named = cc

  pub found_wid : (w : List ℕ) (i : ℕ) → number w ≡ Some i → (provision_in (at i)).wid ≡ w
  found_wid w i leads = own_wid (at i) w (whole.named w i leads)

  found_in : (b : Branch Provision) (u i : ℕ) (w : List ℕ) → Stands at number u i b → (provision_in (at i)).wid ≡ w → holds w b ≡ true
  found_in (branch p below) u i w s same = or_left _ _ (equal_text p.wid w (sym (ap (λ o. (provision_in o).wid) s.0) ∙ same))

  pub found_held : (w : List ℕ) (i : ℕ) → number w ≡ Some i → climbs size at i ≡ true → is_in w (branches_below size at (below_in (at 0))) ≡ true
  found_held w i leads climbed =
      let seat : Seated at number (branch_from size at 0) i = node_seated i climbed in
      is_in-holds w ∙ seat.inside w (found_in seat.it (above_in (at i)) i w seat.stands (found_wid w i leads))

  -- no provision has the root's wId
  pub no_root_held : any_holds root_wid (branches_below size at (below_in (at 0))) ≡ false
  no_root_held =
      sym (ap (λ p. any_holds p.wid (branches_below size at (below_in (at 0)))) whole.root)
      ∙ not_beneath at number (provision_in (at 0)) (branches_below size at (below_in (at 0))) 0 0 whole.stands
