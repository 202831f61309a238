-- What it means that provisions moved: other numbers stand right below one, or another right above them.
use Rattle.std.specs.Prelude.{ℕ, ◌==◌, ◌≡◌, ◌<◌, true, false, List, [], Option, Some}
use Rattle.std.specs.List.{All, list_any}
use Rattle.act_tree.specs.declared.arena.Arena.{Arena}
use Rattle.act_tree.specs.Provisions.{Own}
use Rattle.act_tree.specs.Arena.{Laid, provision_in, above_in, below_in}
use Rattle.act_tree.specs.Relisted.{IsRelisted}
use Rattle.act_tree.specs.Slots.{at, own_at}
use Rattle.act_tree.specs.TakenOff.{IsTakenOff}

-- a number says something else of itself, and other numbers stand right below it
pub record IsFilled (at next : ℕ → Option Laid) (i : ℕ) (own : Own) (below : List ℕ) : Type 0 where
  pub here : next i ≡ Some (record {
    provision = record (provision_in (at i)) { own = own };
    above = above_in (at i);
    below = below;
  })
  pub others : (k : ℕ) → (k ≡ i → ⊥) → next k ≡ at k

-- a number x can be taken off, and another one i can have these right below it, those below x among them
pub record CanJoin (at : ℕ → Option Laid) (size i x : ℕ) (below : List ℕ) : Type 0 where
  pub within : i < size
  pub next : x < size
  pub above : above_in (at x) < size
  pub other : i ≡ x → ⊥
  pub not_above : i ≡ above_in (at x) → ⊥
  pub apart : above_in (at x) ≡ x → ⊥
  pub children : All (λ k. k < size) below
  pub next_children : All (λ k. k < size) (below_in (at x))
  pub outside : list_any (λ j. j == i) below ≡ false
  pub next_outside : list_any (λ j. j == x) below ≡ false
  pub above_outside : list_any (λ j. j == above_in (at x)) below ≡ false
  pub taken_in : (k : ℕ) → list_any (λ j. j == k) (below_in (at x)) ≡ true → list_any (λ j. j == k) below ≡ true
  pub own : (k : ℕ) → list_any (λ j. j == k) below ≡ true → list_any (λ j. j == k) (below_in (at x)) ≡ false
      → above_in (at k) ≡ i

-- a number x was taken off and let those below it go, and another one i says something else of itself and has these
-- right below it
pub record IsJoined (old new : Arena) (i x : ℕ) (own : Own) (below : List ℕ) : Type 0 where
  pub off : Arena
  pub bare : Arena
  pub taken : IsTakenOff (at old) (at off) x
  pub emptied : IsRelisted (at off) (at bare) x (own_at off x) (below_in (at off x)) [] []
  pub joined : IsRelisted (at bare) (at new) i own [] (below_in (at off x)) below
