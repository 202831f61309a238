use Rattle.std.proofs.Common.{◌≡◌, ℕ, ◌%◌, ◌^◌, []}
use Rattle.turn_lock.specs.declared.view.Stage.TheVariants.{Waiting}
use Rattle.turn_lock.specs.Ladder.{staged}
use Rattle.turn_lock.specs.Turned.{IsSameSeat}
use Rattle.turn_lock.proofs.turns.Turns.take_turn.Given as goal

-- the seat waits with the ticket that it drew
abbrev pub invariant-loop : goal.invariant-loop
invariant-loop g l =
    IsSameSeat l.fn.seat l.seat
    × ((ticket : ℕ) × (l.ticket ≡ ticket % 2 ^ 64) × (l.seat.me ≡ (staged l.fn.seat.me.0 (Waiting ticket), [])))
