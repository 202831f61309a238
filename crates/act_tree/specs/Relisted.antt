-- What it means that others stand right below a number: those that leave are taken off, and those that come have it right above them.
use Rattle.std.specs.Prelude.{ℕ, ◌==◌, ◌≡◌, true, false, List, Option, Some}
use Rattle.std.specs.List.{list_any}
use Rattle.act_tree.specs.Provisions.{Own}
use Rattle.act_tree.specs.Arena.{Laid, provision_in, above_in}
use Rattle.act_tree.specs.TakenOff.{with_above}

-- some numbers have another one right above them
pub record IsRaised (at next : ℕ → Option Laid) (ids : List ℕ) (over : ℕ → ℕ) : Type 0 where
  pub raised : (k : ℕ) → list_any (λ j. j == k) ids ≡ true → next k ≡ with_above (over k) (at k)
  pub others : (k : ℕ) → list_any (λ j. j == k) ids ≡ false → next k ≡ at k

-- a number says this of itself, and has these right below it: some left, which are taken off, and some came
pub record IsRelisted (at next : ℕ → Option Laid) (u : ℕ) (own : Own) (gone come list : List ℕ) : Type 0 where
  pub here : next u ≡ Some (record {
    provision = record (provision_in (at u)) { own = own };
    above = above_in (at u);
    below = list;
  })
  pub left : (k : ℕ) → list_any (λ j. j == k) gone ≡ true → next k ≡ with_above k (at k)
  pub came : (k : ℕ) → list_any (λ j. j == k) come ≡ true → next k ≡ with_above u (at k)
  pub others : (k : ℕ) → (k ≡ u → ⊥) → list_any (λ j. j == k) gone ≡ false
      → list_any (λ j. j == k) come ≡ false → next k ≡ at k
