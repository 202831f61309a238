-- Seeking the last number that passes a test through a bucket passes over none, where each one that passes is in it.
use Rattle.std.proofs.Common.{◌≡◌, ◌∙◌, sym, ap, ℕ, zero, suc, ◌-◌, ◌<◌, ◌≤◌, Bool, true, false, List, get_or, Some, inl, inr, arith}
use Rattle.std.proofs.lemmas.Bool.{cases_eq, cond-true, cond-false, false_from_ne_true}
use Rattle.act_tree.specs.LastNumbers.{last_passing}
use Rattle.act_tree.specs.HashIndex.{latest}
use Rattle.act_tree.proofs.HashIndexLatest.{latest_none, latest_here, latest_on}

module _ (test : ℕ → Bool) where
  -- the last one passes, or it does not
  pub last_is : (k : ℕ) → test k ≡ true → last_passing test (suc k) ≡ Some k
  last_is k it = cond-true (test k) (Some k) (last_passing test k) it

  pub last_passes : (k : ℕ) → test k ≡ false → last_passing test (suc k) ≡ last_passing test k
  last_passes k other = cond-false (test k) (Some k) (last_passing test k) other

module _ (test : ℕ → Bool) (places : List ℕ) (bucket size : ℕ) (shares : (k : ℕ) → k < size → test k ≡ true → get_or places k 0 ≡ bucket) where
  -- none passes from the last one of the bucket on
  pub last_in : (n : ℕ) → n ≤ size → last_passing test n ≡ last_passing test (latest places n bucket)
  last_in zero low = ap (last_passing test) (sym (latest_none places bucket))
  last_in (suc n) low = elim (cases_eq (get_or places n 0) bucket) [
    | inl here ↦ ap (last_passing test) (sym (latest_here places n bucket here))
    | inr other ↦
        last_passes test n (false_from_ne_true (test n) (λ it. other (shares n (omega arith) it))) ∙ last_in n (omega arith)
        ∙ ap (last_passing test) (sym (latest_on places n bucket other))
  ]

  -- one step: the last of the first ones is passed, for the last before it of the bucket
  pub step_on : (end next : ℕ) → 0 < end → end ≤ size → test (end - 1) ≡ false → get_or places (end - 1) 0 ≡ bucket → next ≡ latest places (end - 1) (get_or places (end - 1) 0)
      → last_passing test next ≡ last_passing test end
  step_on end next some low other here is =
      let more : end ≡ suc (end - 1) = omega arith in
      ap (last_passing test) (is ∙ ap (latest places (end - 1)) here) ∙ sym (last_in (end - 1) (omega arith)) ∙ sym (last_passes test (end - 1) other) ∙ sym (ap (last_passing test) more)
