-- Others stand in the place of a provision: they stand right before it, and it is taken away.
use Rattle.std.proofs.Common.{◌≡◌, ◌∙◌, sym, ap, refl, ℕ, false, cond, List, inl, inr}
use Rattle.std.proofs.lemmas.Bool.{cases_Bool}
use Rattle.act_tree.specs.Branches.{Branch, Branches, branch, no_branches, more_branches}
use Rattle.act_tree.specs.Provisions.{Provision}
use Rattle.act_tree.specs.Changes.{has_wid, holds, any_holds, joined, before, instead, changed, inside_changed, without, inside_without}
use Rattle.act_tree.proofs.ChangeLaws.{same_inside}
use Rattle.act_tree.proofs.Frames.{none_left, none_right}

of_other_wid : (w : List ℕ) (b : Branch Provision) → holds w b ≡ false → has_wid w b ≡ false
of_other_wid w (branch p below) none = none_left _ _ none

without-joined : (w : List ℕ) (new bs : Branches Provision) → any_holds w new ≡ false → without w (joined new bs) ≡ joined new (without w bs)
without-joined w no_branches bs none = refl
without-joined w (more_branches b new) bs none =
    ap (λ t. cond t (without w (joined new bs)) (more_branches (inside_without w b) (without w (joined new bs)))) (of_other_wid w b (none_left _ _ none))
    ∙ ap (λ c. more_branches c (without w (joined new bs))) (same_inside w b (none_left _ _ none))
    ∙ ap (more_branches b) (without-joined w new bs (none_right (holds w b) _ none))

same_wid : (w : List ℕ) (new : Branches Provision) (b : Branch Provision) → has_wid w (inside_changed (before new) w b) ≡ has_wid w b
same_wid w new (branch p below) = refl

mutual
  instead_inside : (w : List ℕ) (new : Branches Provision) (b : Branch Provision) → any_holds w new ≡ false → inside_without w (inside_changed (before new) w b) ≡ inside_changed (instead new) w b
  instead_inside w new (branch p below) none = ap (branch p) (instead_of w new below none)

  pub instead_of : (w : List ℕ) (new bs : Branches Provision) → any_holds w new ≡ false → without w (changed (before new) w bs) ≡ changed (instead new) w bs
  instead_of w new no_branches none = refl
  instead_of w new (more_branches b bs) none =
      let c : Branch Provision = inside_changed (before new) w b in
      let cs : Branches Provision = changed (before new) w bs in
      let rest : without w cs ≡ changed (instead new) w bs = instead_of w new bs none in
      elim (cases_Bool (has_wid w b)) [
        | inl it ↦
            ap (λ t. without w (cond t (joined new (more_branches c cs)) (more_branches c cs))) it
            ∙ without-joined w new (more_branches c cs) none
            ∙ ap (λ t. joined new (cond t (without w cs) (more_branches (inside_without w c) (without w cs)))) (same_wid w new b ∙ it)
            ∙ ap (joined new) rest
            ∙ sym (ap (λ t. cond t (joined new (changed (instead new) w bs)) (more_branches (inside_changed (instead new) w b) (changed (instead new) w bs))) it)
        | inr other ↦
            ap (λ t. without w (cond t (joined new (more_branches c cs)) (more_branches c cs))) other
            ∙ ap (λ t. cond t (without w cs) (more_branches (inside_without w c) (without w cs))) (same_wid w new b ∙ other)
            ∙ ap (λ d. more_branches d (without w cs)) (instead_inside w new b none)
            ∙ ap (more_branches (inside_changed (instead new) w b)) rest
            ∙ sym (ap (λ t. cond t (joined new (changed (instead new) w bs)) (more_branches (inside_changed (instead new) w b) (changed (instead new) w bs))) other)
      ]
