-- How a move ended is what a run of it leaves.
use Rattle.std.proofs.Common.{◌≡◌, ◌≢◌, ◌⊎◌, inl, inr, ℕ, List, Option, Result, Ok, Err, ap, arith}
use Rattle.desk_base.specs.Streams.{risen}
use Rattle.law_keeper.specs.Keepers.{Holding, Keeps, LeavesOldOrSame}
use Rattle.law_register.specs.declared.desk.damage.Damage.TheVariants.{Journal}
use Rattle.lawdesk.specs.Moving.{IsMoveStatus, RanMove, TellsMove, told_difference, told_moved}
use Rattle.lawdesk.specs.Telling.{told_damage}
use Rattle.lawdesk.proofs.Tellings.{four_cause, four_stays, one_of_three}
use Rattle.sql_keeper.specs.Moving.{Grows, HasMoveCause, IsRisen, LeavesOnTheWay, Moves, OneOf}
use Rattle.sql_keeper.specs.declared.move_fault.MoveFault.{MoveFault}
use Rattle.sql_keeper.specs.declared.move_fault.MoveFault.TheVariants as stops

-- the number of what is told, of a sink that failed, or of want of memory, among those of a move
of_done : (status : ℕ) → (status ≡ 0) ⊎ ((status ≡ 4) ⊎ (status ≡ 7)) → IsMoveStatus status
of_done status (inl done) = inl done
of_done status (inr (inl four)) = inr (inl four)
of_done status (inr (inr seven)) = inr (inr (inr (inr (inl seven))))

of_damage : (status : ℕ) → (status ≡ 6) ⊎ ((status ≡ 4) ⊎ (status ≡ 7)) → IsMoveStatus status
of_damage status (inl six) = inr (inr (inr (inl six)))
of_damage status (inr (inl four)) = inr (inl four)
of_damage status (inr (inr seven)) = inr (inr (inr (inr (inl seven))))

of_difference : (status : ℕ) → (status ≡ 11) ⊎ ((status ≡ 4) ⊎ (status ≡ 7)) → IsMoveStatus status
of_difference status (inl eleven) = inr (inr (inr (inr (inr eleven))))
of_difference status (inr (inl four)) = inr (inl four)
of_difference status (inr (inr seven)) = inr (inr (inr (inr (inl seven))))

-- none of these numbers is 4, and none but one is 5
zero_is_not_four : (n : ℕ) → (told_moved n).status ≢ 4
zero_is_not_four n four = let wrong : 0 ≡ 4 = four in omega (arith, wrong)

six_is_not_four : (place : ℕ) (byte : Option ℕ) → (told_damage (Journal place byte)).status ≢ 4
six_is_not_four place byte four = let wrong : 6 ≡ 4 = four in omega (arith, wrong)

eleven_is_not_four : (place : ℕ) → (told_difference place).status ≢ 4
eleven_is_not_four place four = let wrong : 11 ≡ 4 = four in omega (arith, wrong)

not_five : (status own : ℕ) → own ≢ 5 → status ≡ 5 → (status ≡ own) ⊎ ((status ≡ 4) ⊎ (status ≡ 7)) → ⊥
not_five status own other five (inl is) = other (omega (arith, is, five))
not_five status own other five (inr (inl four)) = omega (arith, four, five)
not_five status own other five (inr (inr seven)) = omega (arith, seven, five)

module _ {W : Type 0} (written : W → Option (List ℕ)) (write_faults : W → ℕ) (sink sink_new : W) (status : ℕ) where
  status_of : (answer : Result ℕ MoveFault) → TellsMove written write_faults sink sink_new answer status → IsMoveStatus status
  status_of (Ok n) told = of_done status (one_of_three written write_faults sink sink_new status (told_moved n) told)
  status_of (Err stops.Failed) ends = inr (inr (inl ends.status_is))
  status_of (Err (stops.Damaged place byte)) told =
      of_damage status (one_of_three written write_faults sink sink_new status (told_damage (Journal place byte)) told)
  status_of (Err (stops.Differs place)) told = of_difference status (one_of_three written write_faults sink sink_new status (told_difference place) told)
  status_of (Err stops.Memory) ends = inr (inr (inr (inr (inl ends.status_is))))

  sink_cause : (answer : Result ℕ MoveFault) → TellsMove written write_faults sink sink_new answer status
      → status ≡ 4 → write_faults sink_new ≡ risen (write_faults sink)
  sink_cause (Ok n) told four = four_cause written write_faults sink sink_new status (told_moved n) (zero_is_not_four n) told four
  sink_cause (Err stops.Failed) ends four = let five : status ≡ 5 = ends.status_is in absurd (omega (arith, five, four))
  sink_cause (Err (stops.Damaged place byte)) told four =
      four_cause written write_faults sink sink_new status (told_damage (Journal place byte)) (six_is_not_four place byte) told four
  sink_cause (Err (stops.Differs place)) told four =
      four_cause written write_faults sink sink_new status (told_difference place) (eleven_is_not_four place) told four
  sink_cause (Err stops.Memory) ends four = let seven : status ≡ 7 = ends.status_is in absurd (omega (arith, seven, four))

  sink_stays : (answer : Result ℕ MoveFault) → TellsMove written write_faults sink sink_new answer status
      → status ≢ 4 → write_faults sink_new ≡ write_faults sink
  sink_stays (Ok n) told other = four_stays written write_faults sink sink_new status (told_moved n) told other
  sink_stays (Err stops.Failed) ends other = ap write_faults ends.same
  sink_stays (Err (stops.Damaged place byte)) told other =
      four_stays written write_faults sink sink_new status (told_damage (Journal place byte)) told other
  sink_stays (Err (stops.Differs place)) told other = four_stays written write_faults sink sink_new status (told_difference place) told other
  sink_stays (Err stops.Memory) ends other = ap write_faults ends.same

  -- a 5 is of one of both keepers
  module _ (from from_now to to_now : ℕ) where
    keeper_cause : (answer : Result ℕ MoveFault) → TellsMove written write_faults sink sink_new answer status
        → HasMoveCause from from_now to to_now answer → status ≡ 5 → OneOf IsRisen from from_now to to_now
    keeper_cause (Ok n) told cause five =
        absurd (not_five status 0 (λ wrong. omega (arith, wrong)) five (one_of_three written write_faults sink sink_new status (told_moved n) told))
    keeper_cause (Err stops.Failed) ends cause five = cause
    keeper_cause (Err (stops.Damaged place byte)) told cause five =
        absurd (not_five status 6 (λ wrong. omega (arith, wrong)) five
        (one_of_three written write_faults sink sink_new status (told_damage (Journal place byte)) told))
    keeper_cause (Err (stops.Differs place)) told cause five =
        absurd (not_five status 11 (λ wrong. omega (arith, wrong)) five (one_of_three written write_faults sink sink_new status (told_difference place) told))
    keeper_cause (Err stops.Memory) ends cause five = let seven : status ≡ 7 = ends.status_is in absurd (omega (arith, seven, five))

-- two keepers and a sink before and after, which clauses see by these functions
module _ {K O W : Type 0} (holding : K → Holding) (faults : K → ℕ) (other_holding : O → Holding) (other_faults : O → ℕ)
    (written : W → Option (List ℕ)) (write_faults : W → ℕ)
    (keeper keeper_new : K) (other other_new : O) (sink sink_new : W) where
  pub ran_move : (answer : Result ℕ MoveFault) (status : ℕ)
      → ((holding keeper).tells → (other_holding other).tells
      → Moves (holding keeper).list (other_holding other).list (other_holding other_new).list answer)
      → TellsMove written write_faults sink sink_new answer status
      → HasMoveCause (faults keeper) (faults keeper_new) (other_faults other) (other_faults other_new) answer
      → Keeps (holding keeper) (holding keeper_new) → Grows (other_holding other) (other_holding other_new)
      → LeavesOldOrSame (holding keeper) (holding keeper_new)
      → LeavesOnTheWay (holding keeper) (other_holding other) (other_holding other_new)
      → RanMove holding faults other_holding other_faults written write_faults keeper keeper_new other other_new sink sink_new status
  ran_move answer status moved told cause same grows crash crash_other = record {
    status_is = status_of written write_faults sink sink_new status answer told;
    answer = answer;
    moved = moved;
    told = told;
    cause = cause;
    keeper_cause = keeper_cause written write_faults sink sink_new status (faults keeper) (faults keeper_new) (other_faults other) (other_faults other_new) answer told cause;
    sink_cause = sink_cause written write_faults sink sink_new status answer told;
    sink_stays = sink_stays written write_faults sink sink_new status answer told;
    same = same;
    grows = grows;
    crash = crash;
    crash_other = crash_other;
  }
