-- What a clause says of turns, and of a seat on its way through one.
use Rattle.std.specs.Prelude.{◌≡◌, ℕ, ◌<◌, List, [], ◌∷◌, Option, None}
use mathlib.Core.List.{IsPrefix}
use Rattle.atomic_table.specs.Seated.{TableId}
use Rattle.atomic_table.specs.declared.shared.Seat.{Seat}
use Rattle.turn_lock.specs.declared.view.View.{View}
use Rattle.turn_lock.specs.declared.view.Stage.TheVariants.{Between, Holding}
use Rattle.turn_lock.specs.declared.turns.Turns.{Turns}
use Rattle.turn_lock.specs.Ladder.{staged, extended, shown}

module _ {T I : Type 0} where
  -- the name that passes have of their turns
  abbrev pub id_of : Turns T I → TableId
  id_of turns = turns.table.shared.table_id

  -- for how many callers the turns were made
  abbrev pub callers_of : Turns T I → ℕ
  callers_of turns = turns.table.shared.key.callers

  -- the seat of a pass of these turns, between two calls
  pub record IsIdle (turns : TableId) (seat : Seat (Option T) (View I)) : Type 0 where
    pub named : seat.table_id ≡ turns
    pub between : seat.me.0.stage ≡ Between
    pub empty_handed : seat.me.1 ≡ []
    pub stands_for_some : 0 < seat.me.0.share

  -- the same seat at the table
  abbrev pub IsSameSeat : Seat (Option T) (View I) → Seat (Option T) (View I) → Type 0
  IsSameSeat before after = (after.table_id ≡ before.table_id) × (after.id ≡ before.id)

module _ {T I : Type 0} (history : T → List I) (origin : T → List ℕ) where
  -- the seat has the turn, and the value is out with it
  pub record HasTaken (before : Seat (Option T) (View I)) (value : T) (after : Seat (Option T) (View I)) : Type 0 where
    pub same : IsSameSeat before after
    pub ticket : ℕ
    pub holds : after.me ≡ (staged before.me.0 (Holding ticket (history value)), (0, None) ∷ [])
    pub begins : IsPrefix before.me.0.seen (history value)
    pub has_origin : origin value ≡ before.me.0.origin

  -- the seat may put this value home
  pub record MayGive (turns : TableId) (seat : Seat (Option T) (View I)) (value : T) : Type 0 where
    pub named : seat.table_id ≡ turns
    pub ticket : ℕ
    pub found : List I
    pub stage : seat.me.0.stage ≡ Holding ticket found
    pub hands : seat.me.1 ≡ (0, None) ∷ []
    pub share : 0 < seat.me.0.share
    pub grown : IsPrefix found (history value)
    pub has_origin : origin value ≡ seat.me.0.origin

module _ {T I : Type 0} (history : T → List I) where
  -- the seat has passed the turn on, and has seen this value's entries
  pub record HasGiven (before : Seat (Option T) (View I)) (value : T) (after : Seat (Option T) (View I)) : Type 0 where
    pub same : IsSameSeat before after
    pub holds : (ticket : ℕ) (found : List I) → before.me.0.stage ≡ Holding ticket found
        → after.me ≡ (shown (extended before.me.0 ticket found (history value)) (history value), [])
