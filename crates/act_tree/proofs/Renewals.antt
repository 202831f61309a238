-- A provision of a text says something else of itself, and has others right below it: laws on texts alone.
use Rattle.std.proofs.Common.{◌≡◌, ◌∙◌, sym, ap, refl, ℕ, true, false, cond, List, inl, inr}
use Rattle.std.specs.Str.{bytes_eq}
use Rattle.std.proofs.lemmas.Bool.{cases_Bool}
use Rattle.act_tree.specs.Branches.{Branch, Branches, branch, no_branches, more_branches}
use Rattle.act_tree.specs.Provisions.{Own, Provision}
use Rattle.act_tree.specs.Changes.{Step, holds, any_holds, changed, inside_changed, joined}
use Rattle.act_tree.proofs.Frames.{none_left, none_right, neither}
use Rattle.act_tree.proofs.PutIn.{same_changed, same_inside_changed, of_other_wid}

-- a text in which the provision of a wId says this of itself, and has these right below it
abbrev mutual
  pub renewed_in : Own → Branches Provision → List ℕ → Branch Provision → Branch Provision
  renewed_in own new w (branch p below) = cond (bytes_eq p.wid w) (branch (record p { own = own }) new) (branch p (renewed own new w below))

  pub renewed : Own → Branches Provision → List ℕ → Branches Provision → Branches Provision
  renewed own new w no_branches = no_branches
  renewed own new w (more_branches b bs) = more_branches (renewed_in own new w b) (renewed own new w bs)

mutual
  -- where no provision has the wId, nothing changes
  pub same_in : (own : Own) (new : Branches Provision) (w : List ℕ) (b : Branch Provision) → holds w b ≡ false → renewed_in own new w b ≡ b
  same_in own new w (branch p below) none =
      ap (λ t. cond t (branch (record p { own = own }) new) (branch p (renewed own new w below))) (none_left (bytes_eq p.wid w) _ none)
      ∙ ap (branch p) (same_renewed own new w below (none_right (bytes_eq p.wid w) _ none))

  pub same_renewed : (own : Own) (new : Branches Provision) (w : List ℕ) (bs : Branches Provision) → any_holds w bs ≡ false → renewed own new w bs ≡ bs
  same_renewed own new w no_branches none = refl
  same_renewed own new w (more_branches b bs) none =
      ap (λ c. more_branches c (renewed own new w bs)) (same_in own new w b (none_left (holds w b) _ none)) ∙ ap (more_branches b) (same_renewed own new w bs (none_right (holds w b) _ none))

mutual
  -- the last word is all that is left of two
  pub again_in : (one own : Own) (new more : Branches Provision) (w : List ℕ) (b : Branch Provision) → renewed_in own more w (renewed_in one new w b) ≡ renewed_in own more w b
  again_in one own new more w (branch p below) =
      elim (cases_Bool (bytes_eq p.wid w)) [
        | inl it ↦
            ap (λ t. renewed_in own more w (cond t (branch (record p { own = one }) new) (branch p (renewed one new w below)))) it
            ∙ ap (λ t. cond t (branch (record p { own = own }) more) (branch (record p { own = one }) (renewed own more w new))) it
            ∙ sym (ap (λ t. cond t (branch (record p { own = own }) more) (branch p (renewed own more w below))) it)
        | inr other ↦
            ap (λ t. renewed_in own more w (cond t (branch (record p { own = one }) new) (branch p (renewed one new w below)))) other
            ∙ ap (λ bs. cond (bytes_eq p.wid w) (branch (record p { own = own }) more) (branch p bs)) (again_all one own new more w below)
      ]

  again_all : (one own : Own) (new more : Branches Provision) (w : List ℕ) (bs : Branches Provision) → renewed own more w (renewed one new w bs) ≡ renewed own more w bs
  again_all one own new more w no_branches = refl
  again_all one own new more w (more_branches b bs) =
      ap (λ c. more_branches c (renewed own more w (renewed one new w bs))) (again_in one own new more w b) ∙ ap (more_branches (renewed_in own more w b)) (again_all one own new more w bs)

-- the step that makes a provision say this of itself, and have these right below it
abbrev pub renewing : Own → Branches Provision → Step
renewing own new (branch p below) rest = more_branches (branch (record p { own = own }) new) rest

-- at the provisions of a wId, that is the text renewed
pub stepped : (own : Own) (new : Branches Provision) (w : List ℕ) (bs : Branches Provision) → renewed own new w bs ≡ changed (renewing own new) w bs
stepped own new w no_branches = refl
stepped own new w (more_branches (branch p below) bs) =
    let X : Branch Provision = branch (record p { own = own }) new in
    let c : Branches Provision = changed (renewing own new) w below in
    let cs : Branches Provision = changed (renewing own new) w bs in
    ap (λ ds. more_branches (cond (bytes_eq p.wid w) X (branch p ds)) (renewed own new w bs)) (stepped own new w below)
    ∙ ap (λ ds. more_branches (cond (bytes_eq p.wid w) X (branch p c)) ds) (stepped own new w bs)
    ∙ (elim (bytes_eq p.wid w) as (λ t. more_branches (cond t X (branch p c)) cs ≡ cond t (more_branches X cs) (more_branches (branch p c) cs)) [ true ↦ refl | false ↦ refl ])

-- what a step makes of a list in which the wId stands once, in a known place
pub step_at : (step : Step) (w : List ℕ) (front : Branches Provision) (p : Provision) (below back : Branches Provision) → any_holds w front ≡ false → bytes_eq p.wid w ≡ true → any_holds w below ≡ false
    → any_holds w back ≡ false → changed step w (joined front (more_branches (branch p below) back)) ≡ joined front (step (branch p below) back)
step_at step w no_branches p below back before it beneath behind =
    ap (λ t. cond t (step (branch p (changed step w below)) (changed step w back)) (more_branches (branch p (changed step w below)) (changed step w back))) it
    ∙ ap (λ bs. step (branch p bs) (changed step w back)) (same_changed step w below beneath)
    ∙ ap (step (branch p below)) (same_changed step w back behind)
step_at step w (more_branches b front) p below back before it beneath behind =
    let rest : Branches Provision = changed step w (joined front (more_branches (branch p below) back)) in
    ap (λ t. cond t (step (inside_changed step w b) rest) (more_branches (inside_changed step w b) rest)) (of_other_wid w b (none_left (holds w b) _ before))
    ∙ ap (λ c. more_branches c rest) (same_inside_changed step w b (none_left (holds w b) _ before))
    ∙ ap (more_branches b) (step_at step w front p below back (none_right (holds w b) _ before) it beneath behind)

pub renewed_root : (own : Own) (new : Branches Provision) (w : List ℕ) (p : Provision) (body : Branches Provision) → bytes_eq p.wid w ≡ false → renewed_in own new w (branch p body) ≡ inside_changed (renewing own new) w (branch p body)
renewed_root own new w p body other =
    ap (λ t. cond t (branch (record p { own = own }) new) (branch p (renewed own new w body))) other ∙ ap (branch p) (stepped own new w body)

-- a wId that is in neither text is not in the text renewed
mutual
  pub none_in : (own : Own) (new : Branches Provision) (w v : List ℕ) (b : Branch Provision) → any_holds v new ≡ false → holds v b ≡ false → holds v (renewed_in own new w b) ≡ false
  none_in own new w v (branch p below) free none =
      let other : bytes_eq p.wid v ≡ false = none_left (bytes_eq p.wid v) _ none in
      elim (bytes_eq p.wid w) as (λ t. holds v (cond t (branch (record p { own = own }) new) (branch p (renewed own new w below))) ≡ false) [
        | true ↦ neither (bytes_eq p.wid v) (any_holds v new) other free
        | false ↦ neither (bytes_eq p.wid v) _ other (none_renewed own new w v below free (none_right (bytes_eq p.wid v) _ none))
      ]

  none_renewed : (own : Own) (new : Branches Provision) (w v : List ℕ) (bs : Branches Provision) → any_holds v new ≡ false → any_holds v bs ≡ false → any_holds v (renewed own new w bs) ≡ false
  none_renewed own new w v no_branches free none = refl
  none_renewed own new w v (more_branches b bs) free none =
      neither _ _ (none_in own new w v b free (none_left (holds v b) _ none)) (none_renewed own new w v bs free (none_right (holds v b) _ none))
