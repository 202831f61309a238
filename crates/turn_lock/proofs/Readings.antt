-- What the rule of the turns means.
use Rattle.std.proofs.Common.{ℕ, List, length, inl, inr, arith}
use mathlib.Core.Logic.{dite}
use native.Mathlib.Decide.{dec_le}
use Rattle.turn_lock.specs.declared.view.Stage.{Stage}
use Rattle.turn_lock.specs.declared.view.Stage.TheVariants.{Between, Joined, Waiting, Serving, Holding}
use Rattle.turn_lock.specs.Ladder.{HasTicket, HasTurn, Stands}
use Rattle.turn_lock.specs.OneHistory.{OneHasTheTurn, OneHistory}
use Rattle.turn_lock.proofs.Prefixes.{prefix_shorter}

module _ {I : Type 0} where
  -- who has the turn has the ticket that is served
  turn_has : (past : List I) (served next : ℕ) (stage : Stage I) → HasTurn stage → Stands past served next stage → HasTicket served stage
  turn_has past served next Between h k = absurd h
  turn_has past served next (Joined told) h k = absurd h
  turn_has past served next (Waiting mine) h k = absurd h
  turn_has past served next (Serving mine known) h k = k.0
  turn_has past served next (Holding mine known) h k = k.0

module _ {T I : Type 0} (history : T → List I) (origin : T → List ℕ) where
  pub one_turn : OneHasTheTurn history origin
  one_turn opening s one other v w r at_one at_other has also = r.apart one other r.served v w at_one at_other
      (turn_has r.past r.served r.next v.stage has (r.known one v at_one).stands)
      (turn_has r.past r.served r.next w.stage also (r.known other w at_other).stands)

  pub one_history : OneHistory history origin
  one_history opening s one other v w r at_one at_other =
      let mine = (r.known one v at_one).seen_first in
      let theirs = (r.known other w at_other).seen_first in
      dite (dec_le (length v.seen) (length w.seen))
      (λ le. inl (prefix_shorter v.seen w.seen r.past mine theirs le))
      (λ more. inr (prefix_shorter w.seen v.seen r.past theirs mine (omega arith)))
