-- The eIds of nodes are those of the text, and differ where those do.
use Rattle.std.proofs.Common.{◌≡◌, ◌∙◌, sym, ap, refl, subst, ℕ, zero, suc, ◌+◌, ◌-◌, ◌<◌, ◌≤◌, ◌==◌, max, true, false, ◌&&◌, cond, List, [], ◌∷◌, Option, Some, None, inl, inr, arith}
use Rattle.std.specs.List.{All}
use Rattle.std.specs.Str.{bytes_eq}
use Rattle.std.proofs.lemmas.Bool.{or_cases, and_parts, eqb-true}
use Rattle.std.proofs.lemmas.List.Elements.{All-nil, All-cons}
use Rattle.std.proofs.lemmas.List.Folds.{list_any-append}
use Rattle.eid_paths.specs.declared.numbering.Numbering.{Numbering}
use Rattle.act_tree.specs.Branches.{Branch, Branches, branch, no_branches, more_branches, height, heights}
use Rattle.act_tree.specs.Provisions.{Provision}
use Rattle.act_tree.specs.Changes.{holds, any_holds}
use Rattle.act_tree.specs.Arena.{Laid, provision_in, above_in, below_in, branches_below, branch_from, hangs_on, climbs, Stands, StandAll, IsWhole}
use Rattle.act_tree.specs.Eids.{eid_below}
use Rattle.act_tree.specs.EidsOfNodes.{eid_up}
use Rattle.act_tree.specs.Faults.{owns, all_owns, eids, all_eids}
use Rattle.act_tree.specs.Wids.{is_among, one_twice}
use Rattle.act_tree.proofs.Texts.{same_text, equal_text}
use Rattle.act_tree.proofs.Frames.{or_left, or_right, none_left, none_right, Apart, twice_apart}
use Rattle.act_tree.proofs.Standing.{one_branch, stands_below}
use Rattle.act_tree.proofs.Climbing.{Seated}
use Rattle.act_tree.proofs.TreeNodes.{node_seated, one_climbs}
use Rattle.act_tree.proofs.GoingUp.{climbs_some, climbs_from, eid_step, eid_root}

-- more steps give the eId of who climbs in fewer
eid_more : (f g : ℕ) (n : Numbering) (at : ℕ → Option Laid) (i : ℕ) → f ≤ g → climbs f at i ≡ true → eid_up f n at i ≡ eid_up g n at i
eid_more zero g n at i le climbed = absurd cc
eid_more (suc f) zero n at i le climbed = absurd (omega arith)
eid_more (suc f) (suc g) n at i le climbed =
    elim (or_cases (i == 0) (hangs_on i (at i) && climbs f at (above_in (at i))) climbed) [
      | inl root ↦ eid_root (suc f) n at i (eqb-true i 0 root) ∙ sym (eid_root (suc g) n at i (eqb-true i 0 root))
      | inr on ↦ ap (λ e. cond (i == 0) None (Some (eid_below n e (provision_in (at i)).own.element (provision_in (at i)).own.num)))
          (eid_more f g n at (above_in (at i)) (omega arith) (and_parts _ _ on).1)
    ]

module _ (at : ℕ → Option Laid) (number : List ℕ → Option ℕ) (size : ℕ) (whole : IsWhole at number size) (n : Numbering) where
  -- the eId of a number
  abbrev eid_now : ℕ → Option (List ℕ)
  eid_now i = eid_up size n at i

  -- the eId of a node is below that of the node above
  pub node_eid : (k : ℕ) → climbs size at k ≡ true → (k ≡ 0 → ⊥) → eid_up size n at k ≡ Some (eid_below n (eid_up size n at (above_in (at k))) (provision_in (at k)).own.element (provision_in (at k)).own.num)
  node_eid k climbed other =
      eid_step size n at k (climbs_some size at k climbed) other
      ∙ ap (λ e. Some (eid_below n e (provision_in (at k)).own.element (provision_in (at k)).own.num)) (eid_more (size - 1) size n at (above_in (at k)) (omega arith) (climbs_from size at k climbed other).1)

  -- a branch stands in the text, below the root
  pub record Lower (b : Branch Provision) : Type 0 where
    pub inside : (w : List ℕ) → holds w b ≡ true → holds w (branch_from size at 0) ≡ true
    pub low : height b < height (branch_from size at 0)

  -- so do branches
  pub record LowerAll (bs : Branches Provision) : Type 0 where
    pub inside : (w : List ℕ) → any_holds w bs ≡ true → holds w (branch_from size at 0) ≡ true
    pub low : heights bs < height (branch_from size at 0)

  pub lower_below : (p : Provision) (below : Branches Provision) → Lower (branch p below) → LowerAll below
  lower_below p below l = record { inside = λ w held. l.inside w (or_right (bytes_eq p.wid w) _ held); low = (let h : heights below + 1 < height (branch_from size at 0) = l.low in omega arith) }

  pub lower_first : (b : Branch Provision) (bs : Branches Provision) → LowerAll (more_branches b bs) → Lower b
  lower_first b bs l = record { inside = λ w held. l.inside w (or_left _ _ held); low = (let h : max (height b) (heights bs) < height (branch_from size at 0) = l.low in omega arith) }

  pub lower_rest : (b : Branch Provision) (bs : Branches Provision) → LowerAll (more_branches b bs) → LowerAll bs
  lower_rest b bs l = record { inside = λ w held. l.inside w (or_right (holds w b) _ held); low = (let h : max (height b) (heights bs) < height (branch_from size at 0) = l.low in omega arith) }

  pub not_root : (b : Branch Provision) (u k : ℕ) → Stands at number u k b → Lower b → k ≡ 0 → ⊥
  not_root b u k s l root =
      let P : ℕ → Type 0 = λ i. Stands at number u i b in
      let same : b ≡ branch_from size at 0 = one_branch at number b (branch_from size at 0) u 0 0 (subst P root s) whole.stands in
      let equal : height b ≡ height (branch_from size at 0) = ap height same in
      let low : height b < height (branch_from size at 0) = l.low in
      omega arith

  pub own_eid : (p : Provision) (below : Branches Provision) (u k : ℕ) → Stands at number u k (branch p below) → Lower (branch p below) → eid_now k ≡ Some (eid_below n (eid_now u) p.own.element p.own.num)
  own_eid p below u k s l =
      node_eid k (one_climbs at number size whole (branch p below) u k s l.inside) (not_root (branch p below) u k s l)
      ∙ ap (λ o. Some (eid_below n (eid_now (above_in o)) (provision_in o).own.element (provision_in o).own.num)) s.0

  mutual
    -- the eId of a node of a branch is among those of the branch
    eid_in : (b : Branch Provision) (u k i : ℕ) (w e : List ℕ) → Stands at number u k b → Lower b → holds w b ≡ true → number w ≡ Some i → eid_now i ≡ Some e → is_among e (eids n (eid_now u) (owns b)) ≡ true
    eid_in (branch p below) u k i w e s l held leads is =
        let own : List ℕ = eid_below n (eid_now u) p.own.element p.own.num in
        let mine : eid_now k ≡ Some own = own_eid p below u k s l in
        elim (or_cases (bytes_eq p.wid w) (any_holds w below) held) [
          | inl it ↦
              let one : Some k ≡ Some i = sym s.1.0 ∙ ap number (same_text p.wid w it) ∙ leads in
              let equal : k ≡ i = cc in
              let two : Some e ≡ Some own = sym is ∙ ap eid_now (sym equal) ∙ mine in
              let same : e ≡ own = cc in
              or_left _ _ (equal_text e own same)
          | inr beneath ↦
              or_right (bytes_eq e own) _
              (ap (λ a. is_among e (all_eids n a (all_owns below))) (sym mine) ∙ eid_among below k i w e (below_in (at k)) s.1.1 (lower_below p below l) beneath leads is)
        ]

    pub eid_among : (bs : Branches Provision) (u i : ℕ) (w e : List ℕ) (ids : List ℕ) → StandAll at number u ids bs → LowerAll bs → any_holds w bs ≡ true → number w ≡ Some i → eid_now i ≡ Some e
        → is_among e (all_eids n (eid_now u) (all_owns bs)) ≡ true
    eid_among no_branches u i w e ids s l held leads is = absurd cc
    eid_among (more_branches b bs) u i w e [] s l held leads is = absurd s
    eid_among (more_branches b bs) u i w e (k ∷ ids) s l held leads is =
        list_any-append (bytes_eq e) (eids n (eid_now u) (owns b)) (all_eids n (eid_now u) (all_owns bs))
        ∙ elim (or_cases (holds w b) (any_holds w bs) held) [
          | inl first ↦ or_left _ _ (eid_in b u k i w e s.0 (lower_first b bs l) first leads is)
          | inr later ↦ or_right (is_among e (eids n (eid_now u) (owns b))) _ (eid_among bs u i w e ids s.1 (lower_rest b bs l) later leads is)
        ]

  mutual
    -- where the eIds of a branch differ, one of its nodes at most has an eId
    one_node : (b : Branch Provision) (u k i j : ℕ) (v w e : List ℕ) → Stands at number u k b → Lower b → one_twice (eids n (eid_now u) (owns b)) ≡ false
        → holds v b ≡ true → number v ≡ Some i → eid_now i ≡ Some e → holds w b ≡ true → number w ≡ Some j → eid_now j ≡ Some e → i ≡ j
    one_node (branch p below) u k i j v w e s l differ held_v leads_v is_v held_w leads_w is_w =
        let own : List ℕ = eid_below n (eid_now u) p.own.element p.own.num in
        let mine : eid_now k ≡ Some own = own_eid p below u k s l in
        let under : (a : List ℕ) (h : ℕ) → any_holds a below ≡ true → number a ≡ Some h → eid_now h ≡ Some e → is_among e (all_eids n (Some own) (all_owns below)) ≡ true =
        λ a h held leads is. ap (λ o. is_among e (all_eids n o (all_owns below))) (sym mine) ∙ eid_among below k h a e (below_in (at k)) s.1.1 (lower_below p below l) held leads is in
        let apart : is_among own (all_eids n (Some own) (all_owns below)) ≡ false = none_left _ _ differ in
        let place : (a : List ℕ) (h : ℕ) → bytes_eq p.wid a ≡ true → number a ≡ Some h → k ≡ h = λ a h it leads.
        (let one : Some k ≡ Some h = sym s.1.0 ∙ ap number (same_text p.wid a it) ∙ leads in cc) in
        let own_is : (h : ℕ) → k ≡ h → eid_now h ≡ Some e → e ≡ own = λ h at_h is.
        (let two : Some e ≡ Some own = sym is ∙ ap eid_now (sym at_h) ∙ mine in cc) in
        let never : (h : ℕ) → k ≡ h → eid_now h ≡ Some e → is_among e (all_eids n (Some own) (all_owns below)) ≡ true → ⊥ = λ h at_h is found.
        (let same : is_among e (all_eids n (Some own) (all_owns below)) ≡ false = ap (λ t. is_among t (all_eids n (Some own) (all_owns below))) (own_is h at_h is) ∙ apart in cc) in
        elim (or_cases (bytes_eq p.wid v) (any_holds v below) held_v) [
          | inl it_v ↦ elim (or_cases (bytes_eq p.wid w) (any_holds w below) held_w) [
            | inl it_w ↦ sym (place v i it_v leads_v) ∙ place w j it_w leads_w
            | inr in_w ↦ absurd (never i (place v i it_v leads_v) is_v (under w j in_w leads_w is_w))
          ]
          | inr in_v ↦ elim (or_cases (bytes_eq p.wid w) (any_holds w below) held_w) [
            | inl it_w ↦ absurd (never j (place w j it_w leads_w) is_w (under v i in_v leads_v is_v))
            | inr in_w ↦ one_among below k i j v w e (below_in (at k)) s.1.1 (lower_below p below l)
                (ap (λ a. one_twice (all_eids n a (all_owns below))) mine ∙ none_right (is_among own (all_eids n (Some own) (all_owns below))) _ differ) in_v leads_v is_v in_w leads_w is_w
          ]
        ]

    pub one_among : (bs : Branches Provision) (u i j : ℕ) (v w e : List ℕ) (ids : List ℕ) → StandAll at number u ids bs → LowerAll bs → one_twice (all_eids n (eid_now u) (all_owns bs)) ≡ false
        → any_holds v bs ≡ true → number v ≡ Some i → eid_now i ≡ Some e → any_holds w bs ≡ true → number w ≡ Some j → eid_now j ≡ Some e → i ≡ j
    one_among no_branches u i j v w e ids s l differ held_v leads_v is_v held_w leads_w is_w = absurd cc
    one_among (more_branches b bs) u i j v w e [] s l differ held_v leads_v is_v held_w leads_w is_w = absurd s
    one_among (more_branches b bs) u i j v w e (k ∷ ids) s l differ held_v leads_v is_v held_w leads_w is_w =
        let apart : Apart (eids n (eid_now u) (owns b)) (all_eids n (eid_now u) (all_owns bs)) = twice_apart (eids n (eid_now u) (owns b)) (all_eids n (eid_now u) (all_owns bs)) differ in
        let never : is_among e (eids n (eid_now u) (owns b)) ≡ true → is_among e (all_eids n (eid_now u) (all_owns bs)) ≡ true → ⊥ = λ first later.
        (let told : is_among e (all_eids n (eid_now u) (all_owns bs)) ≡ false = apart.between e first in cc) in
        elim (or_cases (holds v b) (any_holds v bs) held_v) [
          | inl first_v ↦ elim (or_cases (holds w b) (any_holds w bs) held_w) [
            | inl first_w ↦ one_node b u k i j v w e s.0 (lower_first b bs l) apart.first first_v leads_v is_v first_w leads_w is_w
            | inr later_w ↦ absurd (never (eid_in b u k i v e s.0 (lower_first b bs l) first_v leads_v is_v) (eid_among bs u j w e ids s.1 (lower_rest b bs l) later_w leads_w is_w))
          ]
          | inr later_v ↦ elim (or_cases (holds w b) (any_holds w bs) held_w) [
            | inl first_w ↦ absurd (never (eid_in b u k j w e s.0 (lower_first b bs l) first_w leads_w is_w) (eid_among bs u i v e ids s.1 (lower_rest b bs l) later_v leads_v is_v))
            | inr later_w ↦ one_among bs u i j v w e ids s.1 (lower_rest b bs l) apart.second later_v leads_v is_v later_w leads_w is_w
          ]
        ]

  -- all that stands below the root does
  pub body_lower : LowerAll (branches_below size at (below_in (at 0)))
  body_lower = record { inside = λ w held. or_right (bytes_eq (provision_in (at 0)).wid w) _ held; low = omega arith }

  leads_there : (b : Branch Provision) (u i : ℕ) → Stands at number u i b → (w : List ℕ) × ((holds w b ≡ true) × (number w ≡ Some i))
  leads_there (branch p below) u i s = (p.wid, (or_left _ _ (equal_text p.wid p.wid refl), s.1.0))

  -- a node that is not the root has a wId of the text
  pub node_held : (i : ℕ) → climbs size at i ≡ true → (i ≡ 0 → ⊥) → (w : List ℕ) × ((any_holds w (branches_below size at (below_in (at 0))) ≡ true) × (number w ≡ Some i))
  node_held i climbed other =
      let seat : Seated at number (branch_from size at 0) i = node_seated at number size whole i climbed in
      let told : (w : List ℕ) × ((holds w seat.it ≡ true) × (number w ≡ Some i)) = leads_there seat.it (above_in (at i)) i seat.stands in
      let w : List ℕ = told.0 in
      let leads : number w ≡ Some i = told.1.1 in
      elim (or_cases (bytes_eq (provision_in (at 0)).wid w) (any_holds w (branches_below size at (below_in (at 0)))) (seat.inside w told.1.0)) [
        | inl root ↦ absurd (let one : Some 0 ≡ Some i = sym whole.stands.1.0 ∙ ap number (same_text (provision_in (at 0)).wid w root) ∙ leads in let it : 0 ≡ i = cc in other (sym it))
        | inr held ↦ (w, (held, leads))
      ]

  -- the numbers below one are not the root, and have it right above them
  pub below_hang : (bs : Branches Provision) (u : ℕ) (ids : List ℕ) → StandAll at number u ids bs → LowerAll bs → All (λ k. (above_in (at k) ≡ u) × (k ≡ 0 → ⊥)) ids
  below_hang no_branches u [] s l = All-nil _
  below_hang no_branches u (k ∷ ids) s l = absurd s
  below_hang (more_branches b bs) u [] s l = absurd s
  below_hang (more_branches b bs) u (k ∷ ids) s l =
      All-cons (λ j. (above_in (at j) ≡ u) × (j ≡ 0 → ⊥)) k ids (stands_below at number b u k s.0, not_root b u k s.0 (lower_first b bs l)) (below_hang bs u ids s.1 (lower_rest b bs l))

  seat_hang : (b : Branch Provision) (u i : ℕ) → Stands at number u i b → ((w : List ℕ) → holds w b ≡ true → holds w (branch_from size at 0) ≡ true) → height b ≤ height (branch_from size at 0) → All (λ k. (above_in (at k) ≡ i) × (k ≡ 0 → ⊥)) (below_in (at i))
  seat_hang (branch p below) u i s inside low =
      below_hang below i (below_in (at i)) s.1.1 (record { inside = λ w held. inside w (or_right (bytes_eq p.wid w) _ held); low = omega arith })

  pub children_hang : (i : ℕ) → climbs size at i ≡ true → All (λ k. (above_in (at k) ≡ i) × (k ≡ 0 → ⊥)) (below_in (at i))
  children_hang i climbed =
      let seat : Seated at number (branch_from size at 0) i = node_seated at number size whole i climbed in
      seat_hang seat.it (above_in (at i)) i seat.stands seat.inside seat.low
