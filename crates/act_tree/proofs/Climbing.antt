-- A number whose way up ends at the root is one of the text, and each number of the text is such a one.
use Rattle.std.proofs.Common.{◌≡◌, ◌∙◌, sym, ap, refl, subst, ℕ, zero, suc, ◌+◌, ◌-◌, ◌<◌, ◌≤◌, ◌==◌, Bool, true, false, not, ◌||◌, ◌&&◌, List, [], ◌∷◌, Option, Some, None, inl, inr, arith}
use Rattle.std.specs.List.{list_any}
use Rattle.std.proofs.lemmas.Bool.{cases_eq, or_cases, and_parts, and_from, eqb-true, eq-eqb, ne_eqb}
use Rattle.act_tree.specs.Branches.{Branch, Branches, branch, no_branches, more_branches, height, heights}
use Rattle.act_tree.specs.Provisions.{Provision}
use Rattle.act_tree.specs.Changes.{holds, any_holds}
use Rattle.std.specs.Str.{bytes_eq}
use Rattle.act_tree.specs.Arena.{Laid, provision_in, above_in, below_in, branches_below, branch_from, hangs_on, climbs, climbs_past, is_hung, Stands, StandAll, IsWhole}
use Rattle.act_tree.proofs.Texts.{same_text}
use Rattle.act_tree.proofs.Standing.{one_branch, stands_below, Among, among}

or_left : (s t : Bool) → s ≡ true → (s || t) ≡ true
or_left true t held = refl
or_left false t held = absurd cc

or_right : (s t : Bool) → t ≡ true → (s || t) ≡ true
or_right true t held = refl
or_right false t held = held

not_left : (s t : Bool) → not s ≡ true → (s || t) ≡ true → t ≡ true
not_left true t never either = absurd cc
not_left false t never either = either

pub climbs_more : (f g : ℕ) (at : ℕ → Option Laid) (i : ℕ) → f ≤ g → climbs f at i ≡ true → climbs g at i ≡ true
climbs_more zero g at i le climbed = absurd cc
climbs_more (suc f) zero at i le climbed = absurd (omega arith)
climbs_more (suc f) (suc g) at i le climbed =
    elim (or_cases (i == 0) (hangs_on i (at i) && climbs f at (above_in (at i))) climbed) [
      | inl top ↦ or_left _ _ top
      | inr further ↦
          let parts : (hangs_on i (at i) ≡ true) × (climbs f at (above_in (at i)) ≡ true) = and_parts _ _ further in
          or_right (i == 0) _ (and_from _ _ parts.0 (climbs_more f g at (above_in (at i)) (omega arith) parts.1))
    ]

-- one step of the way up
pub climbs_step : (f : ℕ) (at : ℕ → Option Laid) (i : ℕ) → 0 < f → climbs f at i ≡ ((i == 0) || (hangs_on i (at i) && climbs (f - 1) at (above_in (at i))))
climbs_step zero at i some = absurd (omega arith)
climbs_step (suc f) at i some =
    let less : f ≡ suc f - 1 = omega arith in
    ap (λ n. (i == 0) || (hangs_on i (at i) && climbs n at (above_in (at i)))) less

pub listed_above : (at : ℕ → Option Laid) (i : ℕ) (o : Option Laid) → hangs_on i o ≡ true → is_hung at i o ≡ true → list_any (λ j. j == i) (below_in (at (above_in o))) ≡ true
listed_above at i None hangs hung = absurd cc
listed_above at i (Some x) hangs hung = not_left (x.above == i) _ hangs hung

-- the branch of a number stands in a text
pub record Seated (at : ℕ → Option Laid) (number : List ℕ → Option ℕ) (root : Branch Provision) (i : ℕ) : Type 0 where
  pub it : Branch Provision
  pub stands : Stands at number (above_in (at i)) i it
  pub inside : (w : List ℕ) → holds w it ≡ true → holds w root ≡ true
  pub low : height it ≤ height root

seated_below : (at : ℕ → Option Laid) (number : List ℕ → Option ℕ) (root b : Branch Provision) (u j i : ℕ) → Stands at number u j b
    → ((w : List ℕ) → holds w b ≡ true → holds w root ≡ true) → height b ≤ height root
    → above_in (at i) ≡ j → list_any (λ k. k == i) (below_in (at j)) ≡ true → Seated at number root i
seated_below at number root (branch p below) u j i s inside low up found =
    let child : Among at number j i below = among at number below j i (below_in (at j)) s.1.1 found in
    record {
      it = child.it;
      stands = (let P : ℕ → Type 0 = λ v. Stands at number v i child.it in subst P (sym up) child.stands);
      inside = λ w held. inside w (or_right (bytes_eq p.wid w) _ (child.inside w held));
      low = let h : height child.it ≤ heights below = child.low in omega arith;
    }

-- who climbs has a branch in the text
pub climber_seated : (at : ℕ → Option Laid) (number : List ℕ → Option ℕ) (root : Branch Provision) → Stands at number 0 0 root → ((i : ℕ) → is_hung at i (at i) ≡ true)
    → (f i : ℕ) → climbs f at i ≡ true → Seated at number root i
climber_seated at number root top hung zero i climbed = absurd cc
climber_seated at number root top hung (suc f) i climbed =
    elim (or_cases (i == 0) (hangs_on i (at i) && climbs f at (above_in (at i))) climbed) [
      | inl first ↦
          let P : ℕ → Type 0 = λ k. Seated at number root k in
          subst P (sym (eqb-true i 0 first)) (record {
            it = root;
            stands = (let Q : ℕ → Type 0 = λ v. Stands at number v 0 root in subst Q (sym (stands_below at number root 0 0 top)) top);
            inside = λ w held. held;
            low = omega arith;
          })
      | inr further ↦
          let parts : (hangs_on i (at i) ≡ true) × (climbs f at (above_in (at i)) ≡ true) = and_parts _ _ further in
          let over : Seated at number root (above_in (at i)) = climber_seated at number root top hung f (above_in (at i)) parts.1 in
          seated_below at number root over.it (above_in (at (above_in (at i)))) (above_in (at i)) i over.stands over.inside over.low refl
          (listed_above at i (at i) parts.0 (hung i))
    ]

hangs_there : (i : ℕ) (o : Option Laid) (x : Laid) → o ≡ Some x → (x.above ≡ i → ⊥) → hangs_on i o ≡ true
hangs_there i o x here other = ap (hangs_on i) here ∙ ap not (ne_eqb x.above i other)

module _ (at : ℕ → Option Laid) (number : List ℕ → Option ℕ) where
  -- no branch stands at the number right above it
  pub not_above : (b n : Branch Provision) (v j k : ℕ) → Stands at number v j n → Stands at number j k b → height b < height n → j ≡ k → ⊥
  not_above b n v j k parent child low same =
      let P : ℕ → Type 0 = λ i. Stands at number j i b in
      let one : b ≡ n = one_branch at number b n j v j (subst P (sym same) child) parent in
      let equal : height b ≡ height n = ap height one in
      omega arith

  mutual
    -- a wId that is found at or beneath a child leads to a number that climbs
    climbs_node : (b n : Branch Provision) (w : List ℕ) (v j k i f g : ℕ) → Stands at number v j n → height b < height n → Stands at number j k b → climbs f at j ≡ true → f + height b ≤ g
        → holds w b ≡ true → number w ≡ Some i → climbs g at i ≡ true
    climbs_node (branch p below) n w v j k i f g parent low s climbed room held leads =
        let here : hangs_on k (at k) ≡ true = hangs_there k (at k) (record { provision = p; above = j; below = below_in (at k) }) s.0 (λ same. not_above (branch p below) n v j k parent s low same) in
        let on : climbs f at (above_in (at k)) ≡ true = ap (λ o. climbs f at (above_in o)) s.0 ∙ climbed in
        let step : climbs (suc f) at k ≡ true = or_right (k == 0) _ (and_from _ _ here on) in
        elim (or_cases (bytes_eq p.wid w) (any_holds w below) held) [
          | inl it ↦
              let same : p.wid ≡ w = same_text p.wid w it in
              let one : Some k ≡ Some i = sym s.1.0 ∙ ap number same ∙ leads in
              let equal : k ≡ i = cc in
              ap (climbs g at) (sym equal) ∙ climbs_more (suc f) g at k (omega arith) step
          | inr beneath ↦ climbs_all below (branch p below) w j k i (below_in (at k)) (suc f) g s (omega arith) s.1.1 step (omega arith) beneath leads
        ]

    pub climbs_all : (bs : Branches Provision) (n : Branch Provision) (w : List ℕ) (v j i : ℕ) (numbers : List ℕ) (f g : ℕ) → Stands at number v j n → heights bs < height n → StandAll at number j numbers bs
        → climbs f at j ≡ true → f + heights bs ≤ g → any_holds w bs ≡ true → number w ≡ Some i → climbs g at i ≡ true
    climbs_all no_branches n w v j i numbers f g parent low s climbed room held leads = absurd cc
    climbs_all (more_branches b bs) n w v j i [] f g parent low s climbed room held leads = absurd s
    climbs_all (more_branches b bs) n w v j i (k ∷ numbers) f g parent low s climbed room held leads =
        elim (or_cases (holds w b) (any_holds w bs) held) [
          | inl first ↦ climbs_node b n w v j k i f g parent (omega arith) s.0 climbed (omega arith) first leads
          | inr later ↦ climbs_all bs n w v j i numbers f g parent (omega arith) s.1 climbed (omega arith) later leads
        ]

  mutual
    -- a wId that is found has a number
    pub has_number : (b : Branch Provision) (w : List ℕ) (u i : ℕ) → Stands at number u i b → holds w b ≡ true → (k : ℕ) × (number w ≡ Some k)
    has_number (branch p below) w u i s held =
        elim (or_cases (bytes_eq p.wid w) (any_holds w below) held) [
          | inl it ↦ (i, ap number (sym (same_text p.wid w it)) ∙ s.1.0)
          | inr beneath ↦ have_number below w i (below_in (at i)) s.1.1 beneath
        ]

    pub have_number : (bs : Branches Provision) (w : List ℕ) (u : ℕ) (numbers : List ℕ) → StandAll at number u numbers bs → any_holds w bs ≡ true → (k : ℕ) × (number w ≡ Some k)
    have_number no_branches w u numbers s held = absurd cc
    have_number (more_branches b bs) w u [] s held = absurd s
    have_number (more_branches b bs) w u (i ∷ numbers) s held =
        elim (or_cases (holds w b) (any_holds w bs) held) [
          | inl first ↦ has_number b w u i s.0 first
          | inr later ↦ have_number bs w u numbers s.1 later
        ]

  -- in a whole arena, a wId of the text leads to a number that climbs
  pub found_climbs : (size : ℕ) → IsWhole at number size → (w : List ℕ) (i : ℕ) → holds w (branch_from size at 0) ≡ true → number w ≡ Some i → climbs size at i ≡ true
  found_climbs size whole w i held leads =
      let s = whole.stands in
      let low : heights (branches_below size at (below_in (at 0))) < size = whole.low in
      elim (or_cases (bytes_eq (provision_in (at 0)).wid w) (any_holds w (branches_below size at (below_in (at 0)))) held) [
        | inl it ↦
            let one : Some 0 ≡ Some i = sym s.1.0 ∙ ap number (same_text _ w it) ∙ leads in
            let equal : 0 ≡ i = cc in
            ap (climbs size at) (sym equal) ∙ climbs_more 1 size at 0 (omega arith) refl
        | inr beneath ↦ climbs_all (branches_below size at (below_in (at 0))) (branch_from size at 0) w 0 0 i (below_in (at 0)) 1 size s (omega arith) s.1.1 refl (omega arith) beneath leads
      ]

-- past the root, each way up is as it is
pub past_root : (f : ℕ) (at : ℕ → Option Laid) (i : ℕ) → climbs_past f at 0 i ≡ climbs f at i
past_root zero at i = refl
past_root (suc f) at i =
    elim (cases_eq i 0) [
      | inl root ↦
          ap (λ t. t || (not (i == 0) && (hangs_on i (at i) && climbs_past f at 0 (above_in (at i))))) (eq-eqb i 0 root)
          ∙ sym (ap (λ t. t || (hangs_on i (at i) && climbs f at (above_in (at i)))) (eq-eqb i 0 root))
      | inr other ↦
          ap (λ t. (i == 0) || (not t && (hangs_on i (at i) && climbs_past f at 0 (above_in (at i))))) (ne_eqb i 0 other)
          ∙ ap (λ t. (i == 0) || (hangs_on i (at i) && t)) (past_root f at (above_in (at i)))
    ]

-- one step of the way up past another number
pub past_on : (f : ℕ) (at : ℕ → Option Laid) (gone i : ℕ) (x : Laid) → 0 < f → at i ≡ Some x → (i ≡ 0 → ⊥) → (i ≡ gone → ⊥) → (x.above ≡ i → ⊥) → climbs_past (f - 1) at gone x.above ≡ climbs_past f at gone i
past_on zero at gone i x some here below apart other = absurd (omega arith)
past_on (suc f) at gone i x some here below apart other =
    let less : suc f - 1 ≡ f = omega arith in
    ap (λ n. climbs_past n at gone x.above) less
    ∙ sym (
    ap (λ b. b || (not (i == gone) && (hangs_on i (at i) && climbs_past f at gone (above_in (at i))))) (ne_eqb i 0 below)
    ∙ ap (λ b. not b && (hangs_on i (at i) && climbs_past f at gone (above_in (at i)))) (ne_eqb i gone apart)
    ∙ ap (λ b. b && climbs_past f at gone (above_in (at i))) (hangs_there i (at i) x here other)
    ∙ ap (λ o. climbs_past f at gone (above_in o)) here)

-- no way up leads on from what was taken off
pub past_off : (f : ℕ) (at : ℕ → Option Laid) (gone i : ℕ) (x : Laid) → at i ≡ Some x → (i ≡ 0 → ⊥) → x.above ≡ i → climbs_past f at gone i ≡ false
past_off zero at gone i x here below own = refl
past_off (suc f) at gone i x here below own =
    ap (λ b. b || (not (i == gone) && (hangs_on i (at i) && climbs_past f at gone (above_in (at i))))) (ne_eqb i 0 below)
    ∙ ap (λ b. not (i == gone) && (b && climbs_past f at gone (above_in (at i)))) (ap (hangs_on i) here ∙ ap not (eq-eqb x.above i own))
    ∙ none (not (i == gone))
  where
    none : (b : Bool) → (b && false) ≡ false
    none true = refl
    none false = refl
