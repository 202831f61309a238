-- A level begins an eId in a text exactly where one of the numbers laid down is that of a provision of the text that begins one by it.
use Rattle.std.proofs.Common.{◌≡◌, ◌∙◌, sym, ap, refl, subst, ℕ, zero, suc, ◌<◌, ◌==◌, Bool, true, false, not, cond, ◌||◌, ◌&&◌, List, [], ◌∷◌, Option, Some, inl, inr, arith}
use Rattle.std.specs.List.{list_any}
use Rattle.std.specs.Str.{bytes_eq}
use Rattle.std.proofs.lemmas.Bool.{cases_Bool, cases_eq, or_cases, and_parts, and_from, eqb-true, eq-eqb, ne_eqb}
use Rattle.std.proofs.lemmas.List.Folds.{list_any-append}
use Rattle.eid_paths.specs.declared.numbering.Numbering.{Numbering}
use Rattle.act_tree.specs.Arena.{Laid, provision_in, above_in, below_in, branches_below, hangs_on, climbs, Stands, StandAll, IsWhole}
use Rattle.act_tree.specs.Branches.{Branch, Branches, branch, no_branches, more_branches}
use Rattle.act_tree.specs.EidLevels.{begins, own_level, beginning, all_beginning}
use Rattle.act_tree.specs.Faults.{owns, all_owns}
use Rattle.act_tree.specs.LevelsOfNodes.{begins_by, begins_before}
use Rattle.act_tree.specs.Provisions.{Provision}
use Rattle.act_tree.specs.Wids.{is_among}
use Rattle.act_tree.proofs.Climbing.{listed_above}
use Rattle.act_tree.proofs.Frames.{or_left, or_right}
use Rattle.act_tree.proofs.SiblingNodes.{IsChild, listed_child}
use Rattle.act_tree.proofs.TreeNodes.{node_laid, root_climbs}

-- a level that one begins is its own
own_cases : (s : Bool) (x own : List ℕ) → is_among x (cond s (own ∷ []) []) ≡ true → (s ≡ true) × (bytes_eq x own ≡ true)
own_cases true x own found = (refl, elim (or_cases (bytes_eq x own) false found) [ inl it ↦ it | inr never ↦ absurd cc ])
own_cases false x own found = absurd cc

own_found : (s : Bool) (x own : List ℕ) → s ≡ true → bytes_eq x own ≡ true → is_among x (cond s (own ∷ []) []) ≡ true
own_found true x own held same = or_left _ _ same
own_found false x own held same = absurd cc

not_zero : (i : ℕ) → (i ≡ 0 → ⊥) → not (i == 0) ≡ true
not_zero i other = ap not (ne_eqb i 0 other)

-- one of the first so many numbers
module _ (n : Numbering) (at : ℕ → Option Laid) (size : ℕ) (x : List ℕ) where
  some_before : (m : ℕ) → begins_before n at size x m ≡ true → (i : ℕ) × (begins_by n at size x i ≡ true)
  some_before zero held = absurd cc
  some_before (suc m) held = elim (or_cases (begins_before n at size x m) (begins_by n at size x m) held) [ inl before ↦ some_before m before | inr it ↦ (m, it) ]

  pub before_has : (m i : ℕ) → i < m → begins_by n at size x i ≡ true → begins_before n at size x m ≡ true
  before_has zero i low held = absurd (omega arith)
  before_has (suc m) i low held = elim (cases_eq i m) [
    | inl last ↦ or_right (begins_before n at size x m) _ (ap (begins_by n at size x) (sym last) ∙ held)
    | inr other ↦ or_left _ _ (before_has m i (omega arith) held)
  ]

module _ (n : Numbering) (at : ℕ → Option Laid) (number : List ℕ → Option ℕ) (size : ℕ) (whole : IsWhole at number size) (x : List ℕ) where
  abbrev by : ℕ → Bool
  by i = begins_by n at size x i

  -- the level is begun beneath a node exactly ..
  abbrev Under : ℕ → Type 0
  Under u = (p : Provision) (below : Branches Provision) (v : ℕ) → Stands at number v u (branch p below) → is_among x (all_beginning n (u == 0) (all_owns below)) ≡ true

  -- what one of some nodes begins, these begin
  among_these : (top : Bool) (bs : Branches Provision) (u k : ℕ) (ids : List ℕ) → StandAll at number u ids bs → list_any (λ j. j == k) ids ≡ true
      → ((b : Branch Provision) → Stands at number u k b → is_among x (beginning n top (owns b)) ≡ true) → is_among x (all_beginning n top (all_owns bs)) ≡ true
  among_these top no_branches u k [] s listed each = absurd cc
  among_these top no_branches u k (i ∷ ids) s listed each = absurd s
  among_these top (more_branches b bs) u k [] s listed each = absurd s
  among_these top (more_branches b bs) u k (i ∷ ids) s listed each =
      list_any-append (bytes_eq x) (beginning n top (owns b)) (all_beginning n top (all_owns bs))
      ∙ elim (or_cases (i == k) (list_any (λ j. j == k) ids) listed) [
        | inl here ↦ (let P : ℕ → Type 0 = λ j. Stands at number u j b in or_left _ _ (each b (subst P (eqb-true i k here) s.0)))
        | inr later ↦ or_right (is_among x (beginning n top (owns b))) _ (among_these top bs u k ids s.1 later each)
      ]

  -- what is begun beneath a node is begun in the text
  up : (f u : ℕ) → climbs f at u ≡ true → Under u → Under 0
  up zero u climbed under = absurd cc
  up (suc f) u climbed under =
      elim (cases_eq u 0) [
        | inl root ↦ subst Under root under
        | inr other ↦
            let on : (hangs_on u (at u) && climbs f at (above_in (at u))) ≡ true = sym (ap (λ t. t || (hangs_on u (at u) && climbs f at (above_in (at u)))) (ne_eqb u 0 other)) ∙ climbed in
            let parts : (hangs_on u (at u) ≡ true) × (climbs f at (above_in (at u)) ≡ true) = and_parts _ _ on in
            up f (above_in (at u)) parts.1 (λ p below v s.
            among_these (above_in (at u) == 0) below (above_in (at u)) u (below_in (at (above_in (at u)))) s.1.1 (listed_above at u (at u) parts.0 (whole.hung u))
            (beneath (above_in (at u) == 0) other under))
      ]
    where
      beneath : (top : Bool) → (u ≡ 0 → ⊥) → Under u → (b : Branch Provision) → Stands at number (above_in (at u)) u b → is_among x (beginning n top (owns b)) ≡ true
      beneath top other under (branch p below) s =
          let inner : is_among x (all_beginning n false (all_owns below)) ≡ true = ap (λ t. is_among x (all_beginning n t (all_owns below))) (sym (ne_eqb u 0 other)) ∙ under p below (above_in (at u)) s in
          list_any-append (bytes_eq x) (cond (begins n top p.own) (own_level p.own ∷ []) []) (all_beginning n false (all_owns below))
          ∙ or_right (is_among x (cond (begins n top p.own) (own_level p.own ∷ []) [])) _ inner

  -- the level by which a provision begins one is begun in the text
  pub by_begun : (i : ℕ) → by i ≡ true → is_among x (all_beginning n true (all_owns (branches_below size at (below_in (at 0))))) ≡ true
  by_begun i held =
      let first : (bytes_eq x (own_level (provision_in (at i)).own) ≡ true) × ((begins n (above_in (at i) == 0) (provision_in (at i)).own && (not (i == 0) && climbs size at i)) ≡ true) = and_parts _ _ held in
      let second : (begins n (above_in (at i) == 0) (provision_in (at i)).own ≡ true) × ((not (i == 0) && climbs size at i) ≡ true) = and_parts _ _ first.1 in
      let third : (not (i == 0) ≡ true) × (climbs size at i ≡ true) = and_parts _ _ second.1 in
      let u : ℕ = above_in (at i) in
      let step = from_climb size third.1 (sym (not_not (i == 0) third.0)) in
      up step.0 u step.1.1 (λ p below v s.
      among_these (u == 0) below u i (below_in (at u)) s.1.1 (listed_above at i (at i) step.1.0 (whole.hung i)) (own_begun (u == 0) first.0 second.0))
      (provision_in (at 0)) (branches_below size at (below_in (at 0))) 0 whole.stands
    where
      not_not : (s : Bool) → not s ≡ true → false ≡ s
      not_not true never = absurd cc
      not_not false told = refl

      from_climb : (f : ℕ) → climbs f at i ≡ true → (i == 0) ≡ false → (g : ℕ) × ((hangs_on i (at i) ≡ true) × (climbs g at (above_in (at i)) ≡ true))
      from_climb zero climbed other = absurd cc
      from_climb (suc f) climbed other = (f, and_parts _ _ (sym (ap (λ t. t || (hangs_on i (at i) && climbs f at (above_in (at i)))) other) ∙ climbed))

      own_begun : (top : Bool) → bytes_eq x (own_level (provision_in (at i)).own) ≡ true → begins n top (provision_in (at i)).own ≡ true
          → (b : Branch Provision) → Stands at number (above_in (at i)) i b → is_among x (beginning n top (owns b)) ≡ true
      own_begun top level begun (branch p below) s =
          let says : (provision_in (at i)).own ≡ p.own = ap (λ o. (provision_in o).own) s.0 in
          list_any-append (bytes_eq x) (cond (begins n top p.own) (own_level p.own ∷ []) []) (all_beginning n false (all_owns below))
          ∙ or_left _ _ (own_found (begins n top p.own) x (own_level p.own) (ap (begins n top) (sym says) ∙ begun) (ap (λ o. bytes_eq x (own_level o)) (sym says) ∙ level))

  -- a level that some nodes begin is that of one of them or beneath
  begun_by : (bs : Branches Provision) (u : ℕ) (ids : List ℕ) → climbs size at u ≡ true → StandAll at number u ids bs → ((j : ℕ) → list_any (λ i. i == j) ids ≡ true → list_any (λ i. i == j) (below_in (at u)) ≡ true)
      → is_among x (all_beginning n (u == 0) (all_owns bs)) ≡ true → (i : ℕ) × (by i ≡ true)
  begun_by no_branches u ids climbed s listed found = absurd cc
  begun_by (more_branches b bs) u [] climbed s listed found = absurd s
  begun_by (more_branches (branch p below) bs) u (k ∷ ids) climbed s listed found =
      let child : IsChild at number size whole u k = listed_child at number size whole u k climbed (listed k (or_left _ _ (eq-eqb k k refl))) in
      let own : List (List ℕ) = cond (begins n (u == 0) p.own) (own_level p.own ∷ []) [] in
      elim (or_cases (is_among x (beginning n (u == 0) (owns (branch p below)))) (is_among x (all_beginning n (u == 0) (all_owns bs))) (sym (list_any-append (bytes_eq x) (beginning n (u == 0) (owns (branch p below))) (all_beginning n (u == 0) (all_owns bs))) ∙ found)) [
        | inl first ↦ elim (or_cases (is_among x own) (is_among x (all_beginning n false (all_owns below))) (sym (list_any-append (bytes_eq x) own (all_beginning n false (all_owns below))) ∙ first)) [
          | inl it ↦
              let told = own_cases (begins n (u == 0) p.own) x (own_level p.own) it in
              let says : (provision_in (at k)).own ≡ p.own = ap (λ o. (provision_in o).own) s.0.0 in (
                k,
                and_from _ _ (ap (λ o. bytes_eq x (own_level o)) says ∙ told.1)
                    (and_from _ _ (ap (λ o. begins n (above_in (at k) == 0) o) says ∙ ap (λ v. begins n (v == 0) p.own) child.above ∙ told.0) (and_from _ _ (not_zero k child.other) child.climbed)),
              )
          | inr beneath ↦ begun_by below k (below_in (at k)) child.climbed s.0.1.1 (λ j named. named) (ap (λ t. is_among x (all_beginning n t (all_owns below))) (ne_eqb k 0 child.other) ∙ beneath)
        ]
        | inr later ↦ begun_by bs u ids climbed s.1 (λ j named. listed j (or_right (k == j) _ named)) later
      ]

  pub decided : ((i : ℕ) (y : Laid) → at i ≡ Some y → i < size) → begins_before n at size x size ≡ is_among x (all_beginning n true (all_owns (branches_below size at (below_in (at 0)))))
  decided within = elim (cases_Bool (begins_before n at size x size)) [
    | inl held ↦ (let it = some_before n at size x size held in held ∙ sym (by_begun it.0 it.1))
    | inr none ↦ elim (cases_Bool (is_among x (all_beginning n true (all_owns (branches_below size at (below_in (at 0))))))) [
      | inl found ↦ absurd (
          let it : (i : ℕ) × (by i ≡ true) = begun_by (branches_below size at (below_in (at 0))) 0 (below_in (at 0)) (root_climbs at number size whole) whole.stands.1.1 (λ j named. named) found in
          let laid = node_laid at number size whole it.0 (climbed_by it.0 it.1) in
          let held : begins_before n at size x size ≡ true = before_has n at size x size it.0 (within it.0 laid.0 laid.1) it.1 in
          cc)
      | inr free ↦ none ∙ sym free
    ]
  ]
    where
      climbed_by : (i : ℕ) → by i ≡ true → climbs size at i ≡ true
      climbed_by i held =
          let begun : Bool = begins n (above_in (at i) == 0) (provision_in (at i)).own in
          let there : Bool = not (i == 0) && climbs size at i in
          let first : (bytes_eq x (own_level (provision_in (at i)).own) ≡ true) × ((begun && there) ≡ true) = and_parts (bytes_eq x (own_level (provision_in (at i)).own)) (begun && there) held in
          let second : (begun ≡ true) × (there ≡ true) = and_parts begun there first.1 in
          (and_parts (not (i == 0)) (climbs size at i) second.1).1
