-- What is known of a keeper, and what its calls do to it.
use Rattle.std.specs.Prelude.{ℕ, ◌≡◌, ◌≢◌, ◌⊎◌, ◌↔◌, ◌+◌, ◌<◌, ◌≤◌, List, [], ◌∷◌, ◌++◌, length, map, take, All, slice_get, Option, Some, None, Result, Ok, Err, IsOk, IfOk, IfErr, IsTrue, Vec}
use Rattle.std.specs.declared.alloc.Global.{Global}
use Rattle.desk_base.specs.Streams.{risen}
use Rattle.desk_base.specs.declared.load_fault.LoadFault.{LoadFault}
use Rattle.desk_base.specs.declared.load_fault.LoadFault.TheVariants as fault
use Rattle.law_journal.specs.Grammar.{Listing, is_size, with_last, with_more}
use Rattle.law_journal.specs.Journals.{IsNoDamage, Tells}
use Rattle.law_keeper.specs.declared.keep_fault.KeepFault.{KeepFault}
use Rattle.law_keeper.specs.declared.keep_fault.KeepFault.TheVariants as keep
use Rattle.law_keeper.specs.declared.readiness.Readiness.{Readiness}
use Rattle.law_keeper.specs.declared.readiness.Readiness.TheVariants.{Unopened, Ready, Stopped}

-- what is known of a keeper at a moment
pub record Holding : Type 1 where
  -- whether it tells its list; nothing more is known of one that does not
  pub tells : Type 0
  -- what an opening finds: the payloads, or damage
  pub list : Listing
  -- the place in the list of each cursor that it gave, which is the number of payloads before it
  pub place_of : ℕ → Option ℕ
  -- whether it tells what a crash leaves
  pub tells_crash : Type 0
  -- the lists that a crash at this moment may leave
  pub may_leave : Listing → Type 0
  -- whether it tells what a crash leaves in the midst of a call, too
  pub tells_moments : Type 0
  -- the moment
  pub moment : ℕ
  -- the lists that a crash at some moment from that one on might have left
  pub left_since : ℕ → Listing → Type 0

-- what holds of each keeper: a crash may leave the list as it is, this moment is one of those since an earlier one, and
-- since this moment there is no other
pub record IsHolding (h : Holding) : Type 0 where
  pub stays : h.tells_crash → h.may_leave h.list
  pub counts_now : h.tells_moments → (t : ℕ) (list : Listing) → t ≤ h.moment → h.may_leave list → h.left_since t list
  pub only_now : h.tells_moments → (list : Listing) → h.left_since h.moment list → h.may_leave list

-- payloads that each have 1 to 16,777,216 bytes
abbrev pub HaveSizes : List (List ℕ) → Type 0
HaveSizes payloads = All (λ payload. IsTrue (is_size (length payload))) payloads

-- what holds of a keeper that is ready: it has a list, cursor 0 is the first, and a crash leaves that list
pub record IsSettled (h : Holding) : Type 0 where
  pub has_list : h.tells → IsOk h.list
  pub sizes : h.tells → IfOk h.list HaveSizes
  pub first : h.tells → h.place_of 0 ≡ Some 0
  pub durable : h.tells_crash → (list : Listing) → h.may_leave list → list ≡ h.list

-- cursors keep their meaning
abbrev pub KeepsPlaces : (ℕ → Option ℕ) → (ℕ → Option ℕ) → Type 0
KeepsPlaces old new = (cursor n : ℕ) → old cursor ≡ Some n → new cursor ≡ Some n

-- a call that changes no payload
pub record Keeps (old new : Holding) : Type 0 where
  pub tells : old.tells ↔ new.tells
  pub tells_crash : old.tells_crash ↔ new.tells_crash
  pub list : old.tells → new.list ≡ old.list
  pub places : old.tells → KeepsPlaces old.place_of new.place_of

-- a list is another, with one payload more or without it
abbrev pub IsWithOrWithout : Listing → List ℕ → Listing → Type 0
IsWithOrWithout old payload list = (list ≡ old) ⊎ (list ≡ with_last payload old)

-- what an append makes of a list: the payload stands behind it; after a failure it may or may not, and for want of
-- memory it does not
abbrev pub Becomes : Listing → List ℕ → Result ℕ KeepFault → Listing → Type 0
Becomes old payload (Ok end) list = list ≡ with_last payload old
Becomes old payload (Err keep.Failed) list = IsWithOrWithout old payload list
Becomes old payload (Err keep.Memory) list = list ≡ old

-- how many payloads there are, where there is a list
abbrev pub size_of : Listing → Option ℕ
size_of (Ok payloads) = Some (length payloads)
size_of (Err damage) = None

-- an append, which gives a cursor of the end of the list
pub record Appends (payload : List ℕ) (old new : Holding) (result : Result ℕ KeepFault) : Type 0 where
  pub tells : old.tells ↔ new.tells
  pub tells_crash : old.tells_crash ↔ new.tells_crash
  pub list : old.tells → Becomes old.list payload result new.list
  pub places : old.tells → KeepsPlaces old.place_of new.place_of
  pub end : old.tells → IfOk result (λ end. new.place_of end ≡ size_of new.list)

-- a list is another with some of these payloads behind it, the first ones: all of them, or fewer, or none
abbrev pub IsWithFront : Listing → List (List ℕ) → Listing → Type 0
IsWithFront old payloads list = (count : ℕ) × (list ≡ with_more (take count payloads) old)

-- what an append of several payloads makes of a list: they stand behind it; after a refusal some of them, the first ones
abbrev pub BecomesMore : Listing → List (List ℕ) → Result ℕ KeepFault → Listing → Type 0
BecomesMore old payloads (Ok end) list = list ≡ with_more payloads old
BecomesMore old payloads (Err fault) list = IsWithFront old payloads list

-- an append of several payloads, which gives a cursor of the end of the list
pub record AppendsAll (payloads : List (List ℕ)) (old new : Holding) (result : Result ℕ KeepFault) : Type 0 where
  pub tells : old.tells ↔ new.tells
  pub tells_crash : old.tells_crash ↔ new.tells_crash
  pub list : old.tells → BecomesMore old.list payloads result new.list
  pub places : old.tells → KeepsPlaces old.place_of new.place_of
  pub end : old.tells → IfOk result (λ end. new.place_of end ≡ size_of new.list)

-- what is loaded at place n of a list: the payload there and a cursor of the next place, or the end of the list
abbrev pub GivesAt : List (List ℕ) → ℕ → (ℕ → Option ℕ) → Result (Option (List ℕ × ℕ)) LoadFault → Type 0
GivesAt payloads n place_of (Ok None) = n ≡ length payloads
GivesAt payloads n place_of (Ok (Some entry)) = (slice_get payloads n ≡ Some entry.0)
    × (place_of entry.1 ≡ Some (n + 1))
GivesAt payloads n place_of (Err fault.Failed) = Unit {0}
GivesAt payloads n place_of (Err (fault.Damaged place byte)) = ⊥
GivesAt payloads n place_of (Err fault.Memory) = Unit {0}

-- what is loaded at a cursor that the keeper gave
abbrev pub Gives : Holding → ℕ → Holding → Result (Option (List ℕ × ℕ)) LoadFault → Type 0
Gives old cursor new result = old.tells → (payloads : List (List ℕ)) (n : ℕ) → old.list ≡ Ok payloads
    → old.place_of cursor ≡ Some n → GivesAt payloads n new.place_of result

-- payloads as lists of bytes
abbrev pub bytes_of : List (Vec ℕ Global) → List (List ℕ)
bytes_of payloads = map (λ payload. payload.items) payloads

-- where a payload may stand behind the list or not, it is found exactly where it does, with a cursor of the new end
abbrev pub IsFoundIn : List (List ℕ) → List ℕ → Holding → Option ℕ → Type 0
IsFoundIn payloads payload h None = h.list ≡ Ok payloads
IsFoundIn payloads payload h (Some next) = (h.list ≡ Ok (payloads ++ payload ∷ []))
    × (h.place_of next ≡ Some (length payloads + 1))

abbrev pub IsFound : Holding → ℕ → List ℕ → Holding → Option ℕ → Type 0
IsFound old end payload new found = old.tells → (payloads : List (List ℕ)) → old.place_of end ≡ Some (length payloads)
    → IsWithOrWithout (Ok payloads) payload old.list → IsFoundIn payloads payload new found

-- the next cursor is greater than the one at which a payload is loaded
abbrev pub MovesOn : ℕ → Option ℕ → Type 0
MovesOn cursor None = Unit {0}
MovesOn cursor (Some next) = cursor < next

-- what a keeper whose list has been opened once, or never, is after a payload was loaded or not
abbrev pub after_load : {T : Type 0} → Result T LoadFault → Readiness
after_load (Ok value) = Ready
after_load (Err fault.Failed) = Stopped
after_load (Err (fault.Damaged place byte)) = Stopped
after_load (Err fault.Memory) = Ready

abbrev pub after_append : Result ℕ KeepFault → Readiness
after_append (Ok end) = Ready
after_append (Err keep.Failed) = Stopped
after_append (Err keep.Memory) = Ready

-- no opening has succeeded before one that is refused, or one has
abbrev pub after_refusal : Readiness → Readiness
after_refusal Unopened = Unopened
after_refusal Ready = Stopped
after_refusal Stopped = Stopped

abbrev pub after_opening : Readiness → Result Unit LoadFault → Readiness
after_opening readiness (Ok done) = Ready
after_opening readiness (Err refusal) = after_refusal readiness

-- an opening tells damage exactly as the list has it, and none of a keeper that was opened before
abbrev pub Finds : Readiness → Holding → Result Unit LoadFault → Type 0
Finds readiness old result = old.tells
    → IfErr result (λ refusal. Tells old.list refusal × (readiness ≢ Unopened → IsNoDamage refusal))

-- damage that an opening finds before any has succeeded is no fault; later damage is one, which was counted
abbrev pub HasDamageCause : Readiness → ℕ → ℕ → Type 0
HasDamageCause Unopened before now = now ≡ before
HasDamageCause Ready before now = now ≡ risen before
HasDamageCause Stopped before now = now ≡ risen before

-- a failure that is answered is one fault more, and so is later damage; else the count is as it was
abbrev pub HasReadCause : {T : Type 0} → Readiness → ℕ → ℕ → Result T LoadFault → Type 0
HasReadCause readiness before now (Ok value) = now ≡ before
HasReadCause readiness before now (Err fault.Failed) = now ≡ risen before
HasReadCause readiness before now (Err (fault.Damaged place byte)) = HasDamageCause readiness before now
HasReadCause readiness before now (Err fault.Memory) = now ≡ before

abbrev pub HasAppendCause : ℕ → ℕ → Result ℕ KeepFault → Type 0
HasAppendCause before now (Ok end) = now ≡ before
HasAppendCause before now (Err keep.Failed) = now ≡ risen before
HasAppendCause before now (Err keep.Memory) = now ≡ before

-- a list is one that a crash could leave before the call, or the list that the keeper had
abbrev pub IsOldOrSame : Holding → Listing → Type 0
IsOldOrSame old list = old.may_leave list ⊎ (list ≡ old.list)

-- a crash at any moment since old leaves a list that has P
pub record LeavesSince (P : Listing → Type 0) (old new : Holding) : Type 0 where
  pub tells : new.tells_moments
  pub later : old.moment ≤ new.moment
  pub since : (list : Listing) → new.left_since old.moment list → P list
  -- for a run that began earlier
  pub before : (t : ℕ) (list : Listing) → t ≤ old.moment → new.left_since t list → old.left_since t list ⊎ P list

-- a crash leaves a list that has P, now and, where the keeper tells it, at any moment since old
pub record LeavesOnly (P : Listing → Type 0) (old new : Holding) : Type 0 where
  pub tells : new.tells_crash
  pub now : (list : Listing) → new.may_leave list → P list
  pub any_moment : old.tells_moments → LeavesSince P old new

-- where a keeper tells it: a crash at any moment leaves a list that it could leave before the call
abbrev pub LeavesNoMore : Holding → Holding → Type 0
LeavesNoMore old new = old.tells_crash → LeavesOnly old.may_leave old new

-- where a keeper tells it: a crash at any moment leaves the list from before an append, or that list with the payload
abbrev pub LeavesOneOfTwo : List ℕ → Holding → Holding → Type 0
LeavesOneOfTwo payload old new = old.tells_crash → LeavesOnly (IsWithOrWithout old.list payload) old new

-- where a keeper tells its list and that, too: a crash at any moment leaves the list from before an append of several
-- payloads, with some of them behind it, the first ones
abbrev pub LeavesFront : List (List ℕ) → Holding → Holding → Type 0
LeavesFront payloads old new = old.tells → old.tells_crash → LeavesOnly (IsWithFront old.list payloads) old new

-- where a keeper tells it: a crash at any moment leaves a list that it could leave before the call, or the list itself
abbrev pub LeavesOldOrSame : Holding → Holding → Type 0
LeavesOldOrSame old new = old.tells_crash → LeavesOnly (IsOldOrSame old) old new

-- where a keeper tells its list, these payloads are the list
abbrev pub IsListOf : Holding → Vec (Vec ℕ Global) Global → Type 0
IsListOf h all = h.tells → h.list ≡ Ok (bytes_of all.items)
