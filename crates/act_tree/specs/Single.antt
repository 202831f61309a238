-- That an arena is whole has one proof at most, so that a tree may carry it.
use Rattle.std.specs.Prelude.{ℕ, List, [], ◌∷◌, Option, Some, refl}
use Rattle.std.specs.Coded.{Coded, Coded-set, code_by, coded×, coded_ℕ, coded_list, coded_option, coded_bool, ×_prop, Unit-prop, le_prop}
use Rattle.act_tree.specs.Branches.{Branch, Branches, branch, no_branches, more_branches}
use Rattle.act_tree.specs.Provisions.{Own, Provision}
use Rattle.act_tree.specs.OwnCode.{own_code}
use Rattle.act_tree.specs.Arena.{Laid, Stands, StandAll, IsWhole, below_in}

-- a provision is told apart by its wId and what it says of itself
abbrev pub provision_code : Coded Provision
provision_code =
    code_by (List ℕ × Own) (coded× (coded_list coded_ℕ) own_code) (λ p. (p.wid, p.own))
    (λ t. record { wid = t.0; own = t.1 }) (λ _. refl)

-- what is laid down is told apart by its three parts
abbrev pub laid_code : Coded Laid
laid_code =
    code_by (Provision × (ℕ × List ℕ)) (coded× provision_code (coded× coded_ℕ (coded_list coded_ℕ)))
    (λ x. (x.provision, (x.above, x.below)))
    (λ t. record { provision = t.0; above = t.1.0; below = t.1.1 })
    (λ _. refl)

⊥_prop : IsProp ⊥
⊥_prop a b = absurd a

mutual
  stands_prop : (at : ℕ → Option Laid) (number : List ℕ → Option ℕ) (above i : ℕ) (b : Branch Provision)
      → IsProp (Stands at number above i b)
  stands_prop at number above i (branch p below) =
      ×_prop
      (Coded-set (coded_option laid_code) (at i)
      (Some (record { provision = p; above = above; below = below_in (at i) })))
      (×_prop
      (Coded-set (coded_option coded_ℕ) (number p.wid) (Some i))
      (stand_all_prop at number i (below_in (at i)) below))

  stand_all_prop : (at : ℕ → Option Laid) (number : List ℕ → Option ℕ) (above : ℕ) (numbers : List ℕ)
      (bs : Branches Provision) → IsProp (StandAll at number above numbers bs)
  stand_all_prop at number above [] no_branches = Unit-prop
  stand_all_prop at number above (i ∷ numbers) no_branches = ⊥_prop
  stand_all_prop at number above [] (more_branches b bs) = ⊥_prop
  stand_all_prop at number above (i ∷ numbers) (more_branches b bs) =
      ×_prop (stands_prop at number above i b) (stand_all_prop at number above numbers bs)

pub IsWhole-prop : (at : ℕ → Option Laid) (number : List ℕ → Option ℕ) (size : ℕ) → IsProp (IsWhole at number size)
IsWhole-prop at number size = hlevel (
  stands_prop,
  Coded-set provision_code,
  Coded-set coded_bool,
  Coded-set (coded_option (coded_list coded_ℕ)),
  le_prop,
)
