-- What the rule of the turns means.
use Rattle.std.specs.Prelude.{◌≡◌, ◌⊎◌, ℕ, List, Option}
use mathlib.Core.List.{IsPrefix}
use mathlib.Core.Option.{some}
use lib.ListN.{get_elem?}
use Rattle.atomic_table.specs.Table.{State}
use Rattle.turn_lock.specs.declared.view.View.{View}
use Rattle.turn_lock.specs.declared.view.Opening.{Opening}
use Rattle.turn_lock.specs.Ladder.{HasTurn, IsKept}

module _ {T I : Type 0} (history : T → List I) (origin : T → List ℕ) where
  -- where the rule holds, these are the views of two seats
  abbrev pub OfTwo : (ℕ → ℕ → View I → View I → Type 0) → Type 0
  OfTwo holds = (opening : Opening T) (s : State (Option T) (View I)) (one other : ℕ) (v w : View I)
      → IsKept history origin opening s
      → get_elem? s.views one ≡ some v → get_elem? s.views other ≡ some w → holds one other v w

  -- of two passes that have the turn one is the other
  abbrev pub OneHasTheTurn : Type 0
  OneHasTheTurn = OfTwo (λ one other v w. HasTurn v.stage → HasTurn w.stage → one ≡ other)

  -- of what two passes have seen one begins the other
  abbrev pub OneHistory : Type 0
  OneHistory = OfTwo (λ one other v w. IsPrefix v.seen w.seen ⊎ IsPrefix w.seen v.seen)
