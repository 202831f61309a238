-- What taking away a wId leaves.
use Rattle.std.proofs.Common.{◌≡◌, ◌∙◌, sym, ap, refl, ℕ, true, false, List, ◌∷◌, ◌++◌}
use Rattle.std.proofs.lemmas.Bool.{cond_both}
use Rattle.act_tree.specs.Branches.{Branch, Branches, branch, no_branches, more_branches}
use Rattle.act_tree.specs.Provisions.{Provision}
use Rattle.act_tree.specs.Changes.{has_wid, holds, any_holds, inside_without, without, changed, inside_changed, with_content, renumbered, inside_renumbered}
use Rattle.act_tree.specs.Wids.{wids, all_wids}
use Rattle.act_tree.proofs.Frames as frames

mutual
  none_inside : (w : List ℕ) (b : Branch Provision) → has_wid w b ≡ false → holds w (inside_without w b) ≡ false
  none_inside w (branch p below) other = frames.neither _ _ other (none_left w below)

  pub none_left : (w : List ℕ) (bs : Branches Provision) → any_holds w (without w bs) ≡ false
  none_left w no_branches = refl
  none_left w (more_branches b bs) =
      cond_both (has_wid w b) (without w bs) (more_branches (inside_without w b) (without w bs)) (λ left. any_holds w left ≡ false)
      (λ _. none_left w bs)
      (λ other. frames.neither _ _ (none_inside w b other) (none_left w bs))

of_other_wid : (w : List ℕ) (b : Branch Provision) → holds w b ≡ false → has_wid w b ≡ false
of_other_wid w (branch p below) none = frames.none_left _ _ none

mutual
  pub same_inside : (w : List ℕ) (b : Branch Provision) → holds w b ≡ false → inside_without w b ≡ b
  same_inside w (branch p below) none = ap (branch p) (same_without w below (frames.none_right _ _ none))

  pub same_without : (w : List ℕ) (bs : Branches Provision) → any_holds w bs ≡ false → without w bs ≡ bs
  same_without w no_branches none = refl
  same_without w (more_branches b bs) none =
      cond_both (has_wid w b) (without w bs) (more_branches (inside_without w b) (without w bs)) (λ left. left ≡ more_branches b bs)
      (λ of_it. absurd (let never : true ≡ false = sym of_it ∙ of_other_wid w b (frames.none_left _ _ none) in cc))
      (λ _. ap (λ c. more_branches c (without w bs)) (same_inside w b (frames.none_left _ _ none)) ∙ ap (more_branches b) (same_without w bs (frames.none_right _ _ none)))

mutual
  wids_renumbered : (pairs : List (List ℕ × List ℕ)) (b : Branch Provision) → wids (inside_renumbered pairs b) ≡ wids b
  wids_renumbered pairs (branch p below) = ap (λ ws. p.wid ∷ ws) (all_wids_renumbered pairs below)

  -- other nums leave the wIds
  pub all_wids_renumbered : (pairs : List (List ℕ × List ℕ)) (bs : Branches Provision) → all_wids (renumbered pairs bs) ≡ all_wids bs
  all_wids_renumbered pairs no_branches = refl
  all_wids_renumbered pairs (more_branches b bs) =
      ap (λ ws. ws ++ all_wids (renumbered pairs bs)) (wids_renumbered pairs b) ∙ ap (λ ws. wids b ++ ws) (all_wids_renumbered pairs bs)

wids_given : (content : List ℕ) (b : Branch Provision) (rest : Branches Provision) → all_wids (with_content content b rest) ≡ wids b ++ all_wids rest
wids_given content (branch p below) rest = refl

mutual
  wids_changed : (content w : List ℕ) (b : Branch Provision) → wids (inside_changed (with_content content) w b) ≡ wids b
  wids_changed content w (branch p below) = ap (λ ws. p.wid ∷ ws) (all_wids_changed content w below)

  -- so does another content
  pub all_wids_changed : (content w : List ℕ) (bs : Branches Provision) → all_wids (changed (with_content content) w bs) ≡ all_wids bs
  all_wids_changed content w no_branches = refl
  all_wids_changed content w (more_branches b bs) =
      let c : Branch Provision = inside_changed (with_content content) w b in
      let rest : Branches Provision = changed (with_content content) w bs in
      let same : wids c ++ all_wids rest ≡ wids b ++ all_wids bs =
      ap (λ ws. ws ++ all_wids rest) (wids_changed content w b) ∙ ap (λ ws. wids b ++ ws) (all_wids_changed content w bs) in
      cond_both (has_wid w b) (with_content content c rest) (more_branches c rest) (λ left. all_wids left ≡ wids b ++ all_wids bs) (λ _. wids_given content c rest ∙ same) (λ _. same)
