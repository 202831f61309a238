-- Nums that are given one after another, from the last pair to the first, are given all at once.
use Rattle.std.proofs.Common.{◌≡◌, ◌∙◌, ap, refl, subst, ℕ, true, false, cond, List, [], ◌∷◌}
use Rattle.std.specs.Str.{bytes_eq}
use Rattle.act_tree.specs.declared.arena.Arena.{Arena}
use Rattle.act_tree.specs.Branches.{Branch, Branches, branch, no_branches, more_branches}
use Rattle.act_tree.specs.Provisions.{Provision}
use Rattle.act_tree.specs.Changes.{Step, has_wid, changed, inside_changed, renumbered, inside_renumbered, num_given}
use Rattle.act_tree.specs.Arena.{provision_in, below_in, branches_below, climbs, IsWhole}
use Rattle.act_tree.specs.Restated.{IsRestated}
use Rattle.act_tree.specs.Slots.{at, number, size}
use Rattle.eid_paths.specs.Nums.{is_num}
use Rattle.act_tree.proofs.RestatedNodes.{Restated, restated}

-- the provision has another num
abbrev pub with_num : List ℕ → Step
with_num num (branch p below) rest = more_branches (branch (record p { own = record p.own { num = num } }) below) rest

mutual
  none_inside : (b : Branch Provision) → inside_renumbered [] b ≡ b
  none_inside (branch p below) = ap (branch p) (none_renumbered below)

  -- no pair changes nothing
  pub none_renumbered : (bs : Branches Provision) → renumbered [] bs ≡ bs
  none_renumbered no_branches = refl
  none_renumbered (more_branches b bs) = ap (λ c. more_branches c (renumbered [] bs)) (none_inside b) ∙ ap (more_branches b) (none_renumbered bs)

mutual
  more_inside : (pair : List ℕ × List ℕ) (pairs : List (List ℕ × List ℕ)) (b : Branch Provision) → inside_renumbered (pair ∷ pairs) b ≡ inside_renumbered (pair ∷ []) (inside_renumbered pairs b)
  more_inside pair pairs (branch p below) =
      ap (branch (record p { own = record p.own { num = num_given (pair ∷ pairs) p.wid p.own.num } })) (more_renumbered pair pairs below)

  -- the first pair is given after the others
  pub more_renumbered : (pair : List ℕ × List ℕ) (pairs : List (List ℕ × List ℕ)) (bs : Branches Provision) → renumbered (pair ∷ pairs) bs ≡ renumbered (pair ∷ []) (renumbered pairs bs)
  more_renumbered pair pairs no_branches = refl
  more_renumbered pair pairs (more_branches b bs) =
      ap (λ c. more_branches c (renumbered (pair ∷ pairs) bs)) (more_inside pair pairs b) ∙ ap (more_branches (inside_renumbered (pair ∷ []) (inside_renumbered pairs b))) (more_renumbered pair pairs bs)

mutual
  one_inside : (w num : List ℕ) (b : Branch Provision) (rest : Branches Provision)
      → cond (has_wid w b) (with_num num (inside_changed (with_num num) w b) rest) (more_branches (inside_changed (with_num num) w b) rest) ≡ more_branches (inside_renumbered ((w, num) ∷ []) b) rest
  one_inside w num (branch p below) rest =
      let same : changed (with_num num) w below ≡ renumbered ((w, num) ∷ []) below = one_renumbered w num below in
      elim (bytes_eq p.wid w) as (λ t. cond t (with_num num (branch p (changed (with_num num) w below)) rest) (more_branches (branch p (changed (with_num num) w below)) rest)
      ≡ more_branches (branch (record p { own = record p.own { num = cond t num p.own.num } }) (renumbered ((w, num) ∷ []) below)) rest) [
        | true ↦ ap (λ bs. more_branches (branch (record p { own = record p.own { num = num } }) bs) rest) same
        | false ↦ ap (λ bs. more_branches (branch p bs) rest) same
      ]

  -- one pair is a step at the provisions of its wId
  pub one_renumbered : (w num : List ℕ) (bs : Branches Provision) → changed (with_num num) w bs ≡ renumbered ((w, num) ∷ []) bs
  one_renumbered w num no_branches = refl
  one_renumbered w num (more_branches b bs) =
      one_inside w num b (changed (with_num num) w bs) ∙ ap (more_branches (inside_renumbered ((w, num) ∷ []) b)) (one_renumbered w num bs)

-- the node has another num
pub num_put : (old new : Arena) (i : ℕ) (num : List ℕ) → IsWhole (at old) (number old) (size old) → climbs (size old) (at old) i ≡ true → (i ≡ 0 → ⊥)
    → new.numbers ≡ old.numbers → size new ≡ size old → IsRestated (at old) (at new) i (record (provision_in (at old i)).own { num = num }) → is_num num ≡ true
    → Restated old new (renumbered (((provision_in (at old i)).wid, num) ∷ []) (branches_below (size old) (at old) (below_in (at old 0))))
num_put old new i num whole climbed other numbers sizes r good =
    let P : Branches Provision → Type 0 = λ body. Restated old new body in
    subst P (one_renumbered (provision_in (at old i)).wid num (branches_below (size old) (at old) (below_in (at old 0))))
    (restated old new i (record (provision_in (at old i)).own { num = num }) (with_num num) whole climbed other numbers sizes r (λ below rest. refl) good)
