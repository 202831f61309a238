-- What it means that a provision says something else of itself, and stands where it stood.
use Rattle.std.specs.Prelude.{ℕ, ◌≡◌, Option, Some, None}
use Rattle.act_tree.specs.Provisions.{Own}
use Rattle.act_tree.specs.Arena.{Laid}

-- a provision that says something else of itself
abbrev pub with_own : Own → Option Laid → Option Laid
with_own own None = None
with_own own (Some x) = Some (record x { provision = record x.provision { own = own } })

-- one number says something else of itself
pub record IsRestated (at next : ℕ → Option Laid) (i : ℕ) (own : Own) : Type 0 where
  pub here : next i ≡ with_own own (at i)
  pub others : (k : ℕ) → (k ≡ i → ⊥) → next k ≡ at k
