-- One step of the way up, and the eId that it gives.
use Rattle.std.proofs.Common.{◌≡◌, ◌∙◌, sym, ap, refl, ℕ, zero, suc, ◌-◌, ◌<◌, ◌==◌, true, ◌&&◌, cond, Option, Some, None, inl, inr, arith}
use Rattle.std.proofs.lemmas.Bool.{or_cases, and_parts, eqb-true, eq-eqb, ne_eqb}
use Rattle.eid_paths.specs.declared.numbering.Numbering.{Numbering}
use Rattle.act_tree.specs.Arena.{Laid, provision_in, above_in, hangs_on, climbs}
use Rattle.act_tree.specs.Eids.{eid_below}
use Rattle.act_tree.specs.EidsOfNodes.{eid_up}
use Rattle.act_tree.specs.Slots.{at}
use Rattle.act_tree.proofs.Climbing.{climbs_step}

-- who climbs has a step left
pub climbs_some : (f : ℕ) (at : ℕ → Option Laid) (i : ℕ) → climbs f at i ≡ true → 0 < f
climbs_some zero at i climbed = absurd cc
climbs_some (suc f) at i climbed = omega arith

-- who climbs and is not the root hangs on another number, which climbs in one step less
pub climbs_from : (f : ℕ) (at : ℕ → Option Laid) (i : ℕ) → climbs f at i ≡ true → (i ≡ 0 → ⊥) → (hangs_on i (at i) ≡ true) × (climbs (f - 1) at (above_in (at i)) ≡ true)
climbs_from f at i climbed other =
    elim (or_cases (i == 0) (hangs_on i (at i) && climbs (f - 1) at (above_in (at i))) (sym (climbs_step f at i (climbs_some f at i climbed)) ∙ climbed)) [
      | inl root ↦ absurd (other (eqb-true i 0 root))
      | inr on ↦ and_parts _ _ on
    ]

-- the eId of a number that is not the root is below that of the number above
pub eid_step : (f : ℕ) (n : Numbering) (at : ℕ → Option Laid) (i : ℕ) → 0 < f → (i ≡ 0 → ⊥)
    → eid_up f n at i ≡ Some (eid_below n (eid_up (f - 1) n at (above_in (at i))) (provision_in (at i)).own.element (provision_in (at i)).own.num)
eid_step zero n at i some other = absurd (omega arith)
eid_step (suc f) n at i some other =
    let less : f ≡ suc f - 1 = omega arith in
    ap (λ t. cond t None (Some (eid_below n (eid_up f n at (above_in (at i))) (provision_in (at i)).own.element (provision_in (at i)).own.num))) (ne_eqb i 0 other)
    ∙ ap (λ g. Some (eid_below n (eid_up g n at (above_in (at i))) (provision_in (at i)).own.element (provision_in (at i)).own.num)) less

pub eid_root : (f : ℕ) (n : Numbering) (at : ℕ → Option Laid) (i : ℕ) → i ≡ 0 → eid_up f n at i ≡ None
eid_root zero n at i root = refl
eid_root (suc f) n at i root = ap (λ t. cond t None (Some (eid_below n (eid_up f n at (above_in (at i))) (provision_in (at i)).own.element (provision_in (at i)).own.num))) (eq-eqb i 0 root)
