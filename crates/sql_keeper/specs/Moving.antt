-- What a move of the payloads of one keeper to another makes of both.
use Rattle.std.specs.Prelude.{ℕ, suc, ◌≡◌, ◌⊎◌, ◌↔◌, ◌+◌, List, [], ◌∷◌, ◌++◌, length, if◌then◌else◌, Option, Some, None, Result, Ok, Err}
use Rattle.std.specs.Str.{bytes_eq}
use Rattle.desk_base.specs.Streams.{risen}
use Rattle.desk_base.specs.declared.load_fault.LoadFault.{LoadFault}
use Rattle.desk_base.specs.declared.load_fault.LoadFault.TheVariants as load
use Rattle.law_journal.specs.Grammar.{Listing}
use Rattle.law_keeper.specs.declared.keep_fault.KeepFault.{KeepFault}
use Rattle.law_keeper.specs.declared.keep_fault.KeepFault.TheVariants as keep
use Rattle.sql_keeper.specs.declared.move_fault.MoveFault.{MoveFault}
use Rattle.sql_keeper.specs.declared.move_fault.MoveFault.TheVariants.{Failed, Damaged, Differs, Memory}
use Rattle.law_keeper.specs.Keepers.{Holding, IsOldOrSame, KeepsPlaces, LeavesOnly}

-- a fault of a keeper, as a move tells it
abbrev pub of_load_fault : LoadFault → MoveFault
of_load_fault load.Failed = Failed
of_load_fault (load.Damaged place byte) = Damaged place byte
of_load_fault load.Memory = Memory

abbrev pub of_keep_fault : KeepFault → MoveFault
of_keep_fault keep.Failed = Failed
of_keep_fault keep.Memory = Memory

-- the first place, of those from one on, at which payloads are not as those of a list, or go on beyond them; none where
-- they are a prefix of it
abbrev pub differs_from : ℕ → List (List ℕ) → List (List ℕ) → Option ℕ
differs_from place whole [] = None
differs_from place [] (payload ∷ payloads) = Some place
differs_from place (first ∷ whole) (payload ∷ payloads) = if bytes_eq payload first then differs_from (suc place) whole payloads else Some place

-- payloads are the first of a list
abbrev pub IsPrefix : List (List ℕ) → List (List ℕ) → Type 0
IsPrefix payloads whole = (rest : List (List ℕ)) × (payloads ++ rest ≡ whole)

-- a list is as far as a move has brought it, from what it was to what it is to be
pub record IsOnTheWay (whole before : List (List ℕ)) (now : Listing) : Type 0 where
  pub payloads : List (List ℕ)
  pub is_list : now ≡ Ok payloads
  pub begins : IsPrefix before payloads
  pub within : IsPrefix payloads whole

-- a list is what it was, or is on the way to that of the first keeper
abbrev pub IsLeftBy : Listing → Listing → Listing → Type 0
IsLeftBy (Ok whole) (Ok before) now = (now ≡ Ok before) ⊎ IsOnTheWay whole before now
IsLeftBy (Ok whole) (Err damage) now = now ≡ Err damage
IsLeftBy (Err damage) old now = now ≡ old

-- both are lists, and the second differs from the first at this place, or nowhere
pub record AreLists (from old : Listing) (at : Option ℕ) : Type 0 where
  pub whole : List (List ℕ)
  pub before : List (List ℕ)
  pub whole_is : from ≡ Ok whole
  pub before_is : old ≡ Ok before
  pub differs : differs_from 1 whole before ≡ at

-- what a move answers of the list of the first, and of that of the second as it was and as it is
abbrev pub Moves : Listing → Listing → Listing → Result ℕ MoveFault → Type 0
Moves from old new (Ok n) = (lists : AreLists from old None) × (new ≡ from) × (length lists.before + n ≡ length lists.whole)
Moves from old new (Err Failed) = IsLeftBy from old new
Moves from old new (Err (Damaged place byte)) = (new ≡ old)
    × ((from ≡ Err (record { place = place; byte = byte })) ⊎ (old ≡ Err (record { place = place; byte = byte })))
Moves from old new (Err (Differs place)) = (new ≡ old) × AreLists from old (Some place)
Moves from old new (Err Memory) = IsLeftBy from old new

-- a keeper to which payloads are added: it tells as before, and cursors keep their meaning
pub record Grows (old new : Holding) : Type 0 where
  pub tells : old.tells ↔ new.tells
  pub tells_crash : old.tells_crash ↔ new.tells_crash
  pub places : old.tells → KeepsPlaces old.place_of new.place_of

-- the lists that a crash may leave of the second: one that it could leave before, the list itself, or one on the way
abbrev pub IsLeftOnTheWay : Listing → Holding → Listing → Type 0
IsLeftOnTheWay from old list = IsOldOrSame old list ⊎ IsLeftBy from old.list list

abbrev pub LeavesOnTheWay : Holding → Holding → Holding → Type 0
LeavesOnTheWay from old new = from.tells → old.tells → old.tells_crash → LeavesOnly (IsLeftOnTheWay from.list old) old new

-- a failure that is answered is one fault more of one of both; damage may be one; else the counts are as they were
abbrev pub OneOf : (ℕ → ℕ → Type 0) → ℕ → ℕ → ℕ → ℕ → Type 0
OneOf Counts from from_now to to_now = (Counts from from_now × (to_now ≡ to)) ⊎ ((from_now ≡ from) × Counts to to_now)

abbrev pub IsRisen : ℕ → ℕ → Type 0
IsRisen before now = now ≡ risen before

abbrev pub MayBeRisen : ℕ → ℕ → Type 0
MayBeRisen before now = (now ≡ before) ⊎ (now ≡ risen before)

abbrev pub HasMoveCause : {T : Type 0} → ℕ → ℕ → ℕ → ℕ → Result T MoveFault → Type 0
HasMoveCause from from_now to to_now (Ok value) = (from_now ≡ from) × (to_now ≡ to)
HasMoveCause from from_now to to_now (Err Failed) = OneOf IsRisen from from_now to to_now
HasMoveCause from from_now to to_now (Err (Damaged place byte)) = OneOf MayBeRisen from from_now to to_now
HasMoveCause from from_now to to_now (Err (Differs place)) = (from_now ≡ from) × (to_now ≡ to)
HasMoveCause from from_now to to_now (Err Memory) = (from_now ≡ from) × (to_now ≡ to)

-- what a walk along both lists finds: a cursor of the first, which stands where the second ends, or where they differ
abbrev pub Agrees : Listing → Listing → (ℕ → Option ℕ) → Result ℕ MoveFault → Type 0
Agrees from to place_of (Ok cursor) = (lists : AreLists from to None) × (place_of cursor ≡ Some (length lists.before))
Agrees from to place_of (Err Failed) = Unit {0}
Agrees from to place_of (Err (Damaged place byte)) = ⊥
Agrees from to place_of (Err (Differs place)) = AreLists from to (Some place)
Agrees from to place_of (Err Memory) = Unit {0}

-- a keeper is read from a cursor on that stands behind as many payloads as another has, which are the first of its list
pub record StartsAt (from : Holding) (start : ℕ) (to : Holding) (whole before : List (List ℕ)) : Type 0 where
  pub from_is : from.list ≡ Ok whole
  pub to_is : to.list ≡ Ok before
  pub begins : IsPrefix before whole
  pub at : from.place_of start ≡ Some (length before)

-- what is appended behind a prefix of a list: all that it lacks, or a part of that
abbrev pub Adds : List (List ℕ) → List (List ℕ) → Listing → Result ℕ MoveFault → Type 0
Adds whole before new (Ok n) = (new ≡ Ok whole) × (length before + n ≡ length whole)
Adds whole before new (Err Failed) = IsOnTheWay whole before new
Adds whole before new (Err (Damaged place byte)) = ⊥
Adds whole before new (Err (Differs place)) = ⊥
Adds whole before new (Err Memory) = IsOnTheWay whole before new
