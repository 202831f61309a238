-- Branches among others: what stands, how high it is, and where a wId is found.
use Rattle.std.proofs.Common.{◌≡◌, ◌∙◌, sym, ap, refl, subst, ℕ, ◌+◌, ◌≤◌, Bool, true, false, ◌||◌, cond, List, [], ◌∷◌, ◌++◌, Option, Some, inl, inr, arith}
use Rattle.std.specs.Str.{bytes_eq}
use Rattle.std.proofs.lemmas.Bool.{cases_Bool, or_cases}
use Rattle.std.proofs.lemmas.List.Folds.{list_any-append}
use Rattle.act_tree.specs.Branches.{Branch, Branches, branch, no_branches, more_branches, height, heights}
use Rattle.act_tree.specs.Provisions.{Provision}
use Rattle.act_tree.specs.Changes.{Step, has_wid, holds, any_holds, changed, inside_changed, joined}
use Rattle.act_tree.specs.Arena.{Laid, below_in, Stands, StandAll}
use Rattle.act_tree.specs.Wids.{wids, all_wids, is_among}
use Rattle.act_tree.proofs.Texts.{same_text, bytes_eq_sym}
use Rattle.act_tree.proofs.Frames.{none_left, none_right}
use Rattle.act_tree.proofs.Standing.{one_branch}

module _ (at : ℕ → Option Laid) (number : List ℕ → Option ℕ) (u : ℕ) where
  pub stand_join : (cs bs : Branches Provision) (is ks : List ℕ) → StandAll at number u is cs → StandAll at number u ks bs → StandAll at number u (is ++ ks) (joined cs bs)
  stand_join no_branches bs [] ks s t = t
  stand_join no_branches bs (i ∷ is) ks s t = absurd s
  stand_join (more_branches c cs) bs [] ks s t = absurd s
  stand_join (more_branches c cs) bs (i ∷ is) ks s t = (s.0, stand_join cs bs is ks s.1 t)

pub any_holds-joined : (w : List ℕ) (bs cs : Branches Provision) → any_holds w (joined bs cs) ≡ (any_holds w bs || any_holds w cs)
any_holds-joined w no_branches cs = refl
any_holds-joined w (more_branches b bs) cs = ap (λ t. holds w b || t) (any_holds-joined w bs cs) ∙ sym (together (holds w b) (any_holds w bs) (any_holds w cs))
  where
    together : (s t r : Bool) → ((s || t) || r) ≡ (s || (t || r))
    together true t r = refl
    together false t r = refl

-- a wId is found in a text exactly if it is among the text's wIds
mutual
  pub wids_held : (w : List ℕ) (b : Branch Provision) → is_among w (wids b) ≡ holds w b
  wids_held w (branch p below) = ap (λ t. t || is_among w (all_wids below)) (bytes_eq_sym w p.wid) ∙ ap (λ t. bytes_eq p.wid w || t) (all_wids_held w below)

  pub all_wids_held : (w : List ℕ) (bs : Branches Provision) → is_among w (all_wids bs) ≡ any_holds w bs
  all_wids_held w no_branches = refl
  all_wids_held w (more_branches b bs) =
      list_any-append (bytes_eq w) (wids b) (all_wids bs) ∙ ap (λ t. t || is_among w (all_wids bs)) (wids_held w b) ∙ ap (λ t. holds w b || t) (all_wids_held w bs)

pub of_other_wid : (w : List ℕ) (b : Branch Provision) → holds w b ≡ false → has_wid w b ≡ false
of_other_wid w (branch p below) none = none_left _ _ none

-- a step at a wId that is not there changes nothing
mutual
  pub same_inside_changed : (step : Step) (w : List ℕ) (b : Branch Provision) → holds w b ≡ false → inside_changed step w b ≡ b
  same_inside_changed step w (branch p below) none = ap (branch p) (same_changed step w below (none_right (bytes_eq p.wid w) _ none))

  pub same_changed : (step : Step) (w : List ℕ) (bs : Branches Provision) → any_holds w bs ≡ false → changed step w bs ≡ bs
  same_changed step w no_branches none = refl
  same_changed step w (more_branches b bs) none =
      ap (λ t. cond t (step (inside_changed step w b) (changed step w bs)) (more_branches (inside_changed step w b) (changed step w bs))) (of_other_wid w b (none_left _ _ none))
      ∙ ap (λ c. more_branches c (changed step w bs)) (same_inside_changed step w b (none_left _ _ none))
      ∙ ap (more_branches b) (same_changed step w bs (none_right (holds w b) _ none))

module _ (at : ℕ → Option Laid) (number : List ℕ → Option ℕ) where
  -- a provision of this wId stands somewhere, no higher than this
  record Found (w : List ℕ) (high : ℕ) : Type 0 where
    p : Provision
    below : Branches Provision
    above : ℕ
    place : ℕ
    stands : Stands at number above place (branch p below)
    wid : p.wid ≡ w
    low : heights below + 1 ≤ high

  mutual
    found_at : (b : Branch Provision) (w : List ℕ) (u k : ℕ) → Stands at number u k b → holds w b ≡ true → Found w (height b)
    found_at (branch p below) w u k s held =
        elim (or_cases (bytes_eq p.wid w) (any_holds w below) held) [
          | inl it ↦ record { p = p; below = below; above = u; place = k; stands = s; wid = same_text p.wid w it; low = omega arith }
          | inr beneath ↦
              let f : Found w (heights below) = found_in below w k (below_in (at k)) s.1.1 beneath in
              record { p = f.p; below = f.below; above = f.above; place = f.place; stands = f.stands; wid = f.wid; low = (let l : heights f.below + 1 ≤ heights below = f.low in omega arith) }
        ]

    found_in : (bs : Branches Provision) (w : List ℕ) (u : ℕ) (ks : List ℕ) → StandAll at number u ks bs → any_holds w bs ≡ true → Found w (heights bs)
    found_in no_branches w u ks s held = absurd cc
    found_in (more_branches b bs) w u [] s held = absurd s
    found_in (more_branches b bs) w u (k ∷ ks) s held =
        elim (or_cases (holds w b) (any_holds w bs) held) [
          | inl here ↦
              let f : Found w (height b) = found_at b w u k s.0 here in
              record { p = f.p; below = f.below; above = f.above; place = f.place; stands = f.stands; wid = f.wid; low = (let l : heights f.below + 1 ≤ height b = f.low in omega arith) }
          | inr later ↦
              let f : Found w (heights bs) = found_in bs w u ks s.1 later in
              record { p = f.p; below = f.below; above = f.above; place = f.place; stands = f.stands; wid = f.wid; low = (let l : heights f.below + 1 ≤ heights bs = f.low in omega arith) }
        ]

  -- the wId of a provision that stands is not found below it
  pub not_beneath : (p : Provision) (below : Branches Provision) (u i : ℕ) → Stands at number u i (branch p below) → any_holds p.wid below ≡ false
  not_beneath p below u i s =
      elim (cases_Bool (any_holds p.wid below)) [
        | inl held ↦ absurd (
            let f : Found p.wid (heights below) = found_in below p.wid i (below_in (at i)) s.1.1 held in
            let one : Some f.place ≡ Some i = sym f.stands.1.0 ∙ ap number f.wid ∙ s.1.0 in
            let it : f.place ≡ i = cc in
            let P : ℕ → Type 0 = λ k. Stands at number f.above k (branch f.p f.below) in
            let same : branch f.p f.below ≡ branch p below = one_branch at number (branch f.p f.below) (branch p below) f.above u i (subst P it f.stands) s in
            let equal : heights f.below + 1 ≡ heights below + 1 = ap height same in
            let low : heights f.below + 1 ≤ heights below = f.low in
            omega arith)
        | inr none ↦ none
      ]
