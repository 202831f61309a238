-- What a run of `move` leaves: the payloads of the register that is kept are moved to another. Which words ask for what of both.
use Rattle.std.specs.Prelude.{ℕ, ◌≡◌, ◌≢◌, ◌⊎◌, Bool, true, false, List, [], ◌∷◌, ◌++◌, if◌then◌else◌, Option, Some, None, Result, Ok, Err, codes}
use Rattle.std.specs.Fmt.{decimal}
use Rattle.std.specs.Str.{bytes_eq}
use Rattle.desk_base.specs.Streams.{risen}
use Rattle.dossier_text.specs.Reports.{Told}
use Rattle.law_keeper.specs.Keepers.{Holding, Keeps, LeavesOldOrSame}
use Rattle.law_register.specs.declared.desk.damage.Damage.TheVariants.{Journal}
use Rattle.lawdesk.specs.Telling.{EndsWith, Tells, told_damage}
use Rattle.sql_keeper.specs.Moving.{Grows, HasMoveCause, IsRisen, LeavesOnTheWay, Moves, OneOf}
use Rattle.sql_keeper.specs.declared.move_fault.MoveFault.{MoveFault}
use Rattle.sql_keeper.specs.declared.move_fault.MoveFault.TheVariants as stops

-- the word `move`, and the words behind `sql`, which are for the other register
abbrev pub is_move : List (List ℕ) → Bool
is_move [] = false
is_move (word ∷ []) = bytes_eq word (codes "move")
is_move (word ∷ next ∷ words) = false

abbrev pub for_other : List (List ℕ) → Option (List (List ℕ))
for_other [] = None
for_other (word ∷ words) = if bytes_eq word (codes "sql") then Some words else None

-- the statuses of `move`: 0 it was moved, 11 the lists differ, 6 one of both is damaged, 4 and 5 for a sink and a keeper that failed,
-- 7 for want of memory
abbrev pub IsMoveStatus : ℕ → Type 0
IsMoveStatus status = (status ≡ 0) ⊎ ((status ≡ 4) ⊎ ((status ≡ 5) ⊎ ((status ≡ 6) ⊎ ((status ≡ 7) ⊎ (status ≡ 11)))))

-- how many payloads were moved
abbrev pub told_moved : ℕ → Told
told_moved n = record { status = 0; bytes = codes "moved " ++ decimal n ++ 10 ∷ [] }

-- the first place at which the lists differ
abbrev pub difference_text : ℕ → List ℕ
difference_text place = codes "{\"differs\":" ++ decimal place ++ codes "}"

abbrev pub told_difference : ℕ → Told
told_difference place = record { status = 11; bytes = difference_text place ++ 10 ∷ [] }

-- a sink before and after, which clauses see by these functions
module _ {W : Type 0} (written : W → Option (List ℕ)) (write_faults : W → ℕ) (sink sink_new : W) where
  -- what is told of how a move ended
  abbrev pub TellsMove : Result ℕ MoveFault → ℕ → Type 0
  TellsMove (Ok n) status = Tells written write_faults sink sink_new status (told_moved n)
  TellsMove (Err stops.Failed) status = EndsWith written write_faults sink sink_new status 5
  TellsMove (Err (stops.Damaged place byte)) status = Tells written write_faults sink sink_new status (told_damage (Journal place byte))
  TellsMove (Err (stops.Differs place)) status = Tells written write_faults sink sink_new status (told_difference place)
  TellsMove (Err stops.Memory) status = EndsWith written write_faults sink sink_new status 7

-- two keepers and a sink before and after, which clauses see by these functions
module _ {K O W : Type 0} (holding : K → Holding) (faults : K → ℕ) (other_holding : O → Holding) (other_faults : O → ℕ)
    (written : W → Option (List ℕ)) (write_faults : W → ℕ)
    (keeper keeper_new : K) (other other_new : O) (sink sink_new : W) where
  -- what a run of `move` leaves
  pub record RanMove (status : ℕ) : Type 0 where
    pub status_is : IsMoveStatus status
    -- the list of the first was moved to the second, or was not for the reason that is told
    pub answer : Result ℕ MoveFault
    pub moved : (holding keeper).tells → (other_holding other).tells
        → Moves (holding keeper).list (other_holding other).list (other_holding other_new).list answer
    pub told : TellsMove written write_faults sink sink_new answer status
    -- each fault has its cause, and no count rose but that of the device which failed
    pub cause : HasMoveCause (faults keeper) (faults keeper_new) (other_faults other) (other_faults other_new) answer
    pub keeper_cause : status ≡ 5 → OneOf IsRisen (faults keeper) (faults keeper_new) (other_faults other) (other_faults other_new)
    pub sink_cause : status ≡ 4 → write_faults sink_new ≡ risen (write_faults sink)
    pub sink_stays : status ≢ 4 → write_faults sink_new ≡ write_faults sink
    -- the list of the first stays, and the second keeps what it had; a crash leaves of the first what it could leave before, or its
    -- list, and of the second that, or a list on the way to the first
    pub same : Keeps (holding keeper) (holding keeper_new)
    pub grows : Grows (other_holding other) (other_holding other_new)
    pub crash : LeavesOldOrSame (holding keeper) (holding keeper_new)
    pub crash_other : LeavesOnTheWay (holding keeper) (other_holding other) (other_holding other_new)
