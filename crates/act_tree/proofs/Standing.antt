-- Branches that stand in an arena: they are what is read from it, and each number has one.
use Rattle.std.proofs.Common.{◌≡◌, ◌∙◌, sym, ap, refl, subst, ℕ, zero, suc, ◌+◌, ◌<◌, ◌≤◌, ◌==◌, Bool, true, false, ◌||◌, List, [], ◌∷◌, Option, inl, inr, arith}
use Rattle.std.specs.List.{list_any}
use Rattle.std.proofs.lemmas.Bool.{or_cases, eqb-true}
use Rattle.act_tree.specs.Branches.{Branch, Branches, branch, no_branches, more_branches, height, heights}
use Rattle.act_tree.specs.Provisions.{Provision}
use Rattle.act_tree.specs.Changes.{holds, any_holds}
use Rattle.act_tree.specs.Arena.{Laid, provision_in, above_in, below_in, branches_below, branch_from, Stands, StandAll}

pub some_high : {L : Type 0} → (b : Branch L) → 0 < height b
some_high (branch label below) = omega arith

module _ (at : ℕ → Option Laid) (number : List ℕ → Option ℕ) where
  mutual
    -- the branch that stands at a number is the one that is read from there
    pub branch_is : (b : Branch Provision) (levels above i : ℕ) → Stands at number above i b → height b ≤ suc levels → branch_from levels at i ≡ b
    branch_is (branch p below) levels above i s low =
        ap (λ q. branch q (branches_below levels at (below_in (at i)))) (ap provision_in s.0)
        ∙ ap (branch p) (branches_are below levels i (below_in (at i)) s.1.1 (omega arith))

    pub branches_are : (bs : Branches Provision) (levels above : ℕ) (numbers : List ℕ) → StandAll at number above numbers bs → heights bs ≤ levels → branches_below levels at numbers ≡ bs
    branches_are no_branches zero above [] s low = refl
    branches_are no_branches (suc levels) above [] s low = refl
    branches_are no_branches levels above (i ∷ numbers) s low = absurd s
    branches_are (more_branches b bs) levels above [] s low = absurd s
    branches_are (more_branches b bs) zero above (i ∷ numbers) s low = absurd (let high : 0 < height b = some_high b in omega arith)
    branches_are (more_branches b bs) (suc levels) above (i ∷ numbers) s low =
        ap (λ c. more_branches c (branches_below (suc levels) at numbers)) (branch_is b levels above i s.0 (omega arith))
        ∙ ap (more_branches b) (branches_are bs (suc levels) above numbers s.1 (omega arith))

  -- one branch at most stands at a number
  pub one_branch : (b c : Branch Provision) (u v i : ℕ) → Stands at number u i b → Stands at number v i c → b ≡ c
  one_branch b c u v i first second =
      sym (branch_is b (height b + height c) u i first (omega arith)) ∙ branch_is c (height b + height c) v i second (omega arith)

  -- the number above a branch that stands
  pub stands_below : (b : Branch Provision) (u i : ℕ) → Stands at number u i b → above_in (at i) ≡ u
  stands_below (branch p below) u i s = ap above_in s.0

  -- a branch of the number i that stands among others
  pub record Among (above i : ℕ) (bs : Branches Provision) : Type 0 where
    pub it : Branch Provision
    pub stands : Stands at number above i it
    pub inside : (w : List ℕ) → holds w it ≡ true → any_holds w bs ≡ true
    pub low : height it ≤ heights bs

  or_second : (s t : Bool) → t ≡ true → (s || t) ≡ true
  or_second true t held = refl
  or_second false t held = held

  or_first : (s t : Bool) → s ≡ true → (s || t) ≡ true
  or_first true t held = refl
  or_first false t held = absurd cc

  pub among : (bs : Branches Provision) (above i : ℕ) (numbers : List ℕ) → StandAll at number above numbers bs → list_any (λ j. j == i) numbers ≡ true → Among above i bs
  among no_branches above i [] s found = absurd cc
  among no_branches above i (j ∷ numbers) s found = absurd s
  among (more_branches b bs) above i [] s found = absurd s
  among (more_branches b bs) above i (j ∷ numbers) s found =
      elim (or_cases (j == i) (list_any (λ k. k == i) numbers) found) [
        | inl here ↦ record {
          it = b;
          stands = (let P : ℕ → Type 0 = λ k. Stands at number above k b in subst P (eqb-true j i here) s.0);
          inside = λ w held. or_first (holds w b) (any_holds w bs) held;
          low = omega arith;
        }
        | inr later ↦
            let rest : Among above i bs = among bs above i numbers s.1 later in
            record {
              it = rest.it;
              stands = rest.stands;
              inside = λ w held. or_second (holds w b) (any_holds w bs) (rest.inside w held);
              low = let below : height rest.it ≤ heights bs = rest.low in omega arith;
            }
      ]
