-- What it means that provisions were taken off an arena: they are the numbers right above themselves, and no list names
-- them.
use Rattle.std.specs.Prelude.{ℕ, ◌==◌, ◌≡◌, not, List, filter, Option, Some, None}
use Rattle.act_tree.specs.Arena.{Laid, above_in, below_in}

-- a provision that has another number right above it
abbrev pub with_above : ℕ → Option Laid → Option Laid
with_above above None = None
with_above above (Some x) = Some (record x { above = above })

-- a provision that has other numbers right below it
abbrev pub with_below : List ℕ → Option Laid → Option Laid
with_below below None = None
with_below below (Some x) = Some (record x { below = below })

-- one number is taken off: the one above it lists it no more
pub record IsTakenOff (at next : ℕ → Option Laid) (i : ℕ) : Type 0 where
  pub here : next i ≡ with_above i (at i)
  pub over : next (above_in (at i))
      ≡ with_below (filter (λ k. not (k == i)) (below_in (at (above_in (at i))))) (at (above_in (at i)))
  pub others : (k : ℕ) → (k ≡ i → ⊥) → (k ≡ above_in (at i) → ⊥) → next k ≡ at k
