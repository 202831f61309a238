-- What comes of a payload that a follower is given with its number.
use Rattle.std.specs.Prelude.{ℕ, ◌≡◌, ◌⊎◌, ◌-◌, ◌+◌, ◌==◌, nat_le, Bool, true, false, List, [], ◌∷◌, ◌++◌, length, get_or, Option, Some, None, IsSome, Result, Ok, Err, if◌then◌else◌}
use Rattle.std.specs.Str.{bytes_eq}
use Rattle.desk_base.specs.Streams.{risen}
use Rattle.law_journal.specs.Grammar.{Listing}
use Rattle.law_keeper.specs.Keepers.{Holding, IsWithOrWithout, LeavesOnly}
use Rattle.law_keeper.specs.declared.keep_fault.KeepFault.{KeepFault}
use Rattle.law_keeper.specs.declared.keep_fault.KeepFault.TheVariants as keep
use Rattle.law_register.specs.declared.desk.damage.Damage.{Damage}
use Rattle.law_register.specs.declared.desk.damage.Damage.TheVariants as damage
use Rattle.law_register.specs.declared.register.entry.Entry.{Entry}
use Rattle.law_follow.specs.Opening.{opened, with_payload}
use Rattle.law_follow.specs.Replicas.{Standing, Stands, payloads_of, pending_of}
use Rattle.law_follow.specs.declared.replica.Replica.{Replica}
use Rattle.law_follow.specs.declared.taken.Taken.{Taken}
use Rattle.law_follow.specs.declared.taken.Taken.TheVariants.{Added, Known}
use Rattle.law_follow.specs.declared.taken.TakeFault.{TakeFault}
use Rattle.law_follow.specs.declared.taken.TakeFault.TheVariants as fault

-- the answer for a payload that comes next, by what an opening would find with it behind the others
abbrev pub next_answer : Result (List Entry) Damage → Result Taken TakeFault
next_answer (Ok entries) = Ok Added
next_answer (Err (damage.Journal place byte)) = Err (fault.BadEntry (record { place = place; byte = byte }))
next_answer (Err (damage.Entry number place byte)) = Err (fault.BadEntry (record { place = place; byte = byte }))
next_answer (Err (damage.Order number rule)) = Err (fault.NotAccepted rule)

-- the answer for one whose number stands already, by whether it is the same payload
abbrev pub old_answer : ℕ → Bool → Result Taken TakeFault
old_answer number true = Ok Known
old_answer number false = Err (fault.Conflict number)

-- the answer of a follower that has these payloads for one of this number
unfoldable pub taken : List (List ℕ) → ℕ → List ℕ → Result Taken TakeFault
taken payloads number payload =
    if nat_le number (length payloads) then old_answer number (bytes_eq (get_or payloads (number - 1) []) payload)
    else if number == length payloads + 1 then next_answer (opened (payloads ++ payload ∷ []))
    else Err (fault.Gap (length payloads + 1) number)

-- what it has after an answer: one payload more where it was added
abbrev pub after_answer : List (List ℕ) → List ℕ → Result Taken TakeFault → List (List ℕ)
after_answer payloads payload (Ok Added) = payloads ++ payload ∷ []
after_answer payloads payload (Ok Known) = payloads
after_answer payloads payload (Err refusal) = payloads

-- the step of a follower: what it has once it was given that
abbrev pub after_taking : List (List ℕ) → ℕ → List ℕ → List (List ℕ)
after_taking payloads number payload = after_answer payloads payload (taken payloads number payload)

-- the payloads once a follower is settled: one that was pending is found, and stands behind the others, or it is dropped
abbrev pub AreSettled : List (List ℕ) → Option (List ℕ) → List (List ℕ) → Type 0
AreSettled payloads None settled = settled ≡ payloads
AreSettled payloads (Some payload) settled = (settled ≡ payloads) ⊎ (settled ≡ payloads ++ payload ∷ [])

-- a follower that went from old to new is given a payload, while its keeper's list, where it is told, went from before to
-- after
module _ (number : ℕ) (payload : List ℕ) (old new : Standing) (told : Type 0) (before after : Listing) where
  -- it is settled, and gives the answer of the step
  pub record IsAnswered (given : Result Taken TakeFault) : Type 0 where
    pub settled : List (List ℕ)
    pub settles : AreSettled old.payloads old.pending settled
    pub answered : taken settled number payload ≡ given
    pub payloads : new.payloads ≡ after_answer settled payload given
    pub pending : new.pending ≡ None
    pub found : told → before ≡ Ok settled
    pub kept : told → after ≡ Ok new.payloads

  -- nothing has come of it: the one that was pending is so still
  pub record IsWaiting : Type 0 where
    pub payloads : new.payloads ≡ old.payloads
    pub pending : new.pending ≡ old.pending
    pub stays : told → after ≡ before

  -- it is settled, the payload may be added, and it is not known whether the keeper has it
  pub record IsLeftPending : Type 0 where
    pub settles : AreSettled old.payloads old.pending new.payloads
    pub answered : taken new.payloads number payload ≡ Ok Added
    pub pending : new.pending ≡ Some payload
    pub found : told → before ≡ Ok new.payloads
    pub kept : told → IsWithOrWithout before payload after

  -- it is settled, and nothing else was done
  pub record IsIdle : Type 0 where
    pub settles : AreSettled old.payloads old.pending new.payloads
    pub pending : new.pending ≡ None
    pub found : told → before ≡ Ok new.payloads
    pub stays : told → after ≡ before

  abbrev pub Takes : Result Taken TakeFault → Type 0
  Takes (Ok answer) = IsAnswered (Ok answer)
  Takes (Err (fault.Gap expected got)) = IsAnswered (Err (fault.Gap expected got))
  Takes (Err (fault.Conflict n)) = IsAnswered (Err (fault.Conflict n))
  Takes (Err (fault.BadEntry broken)) = IsAnswered (Err (fault.BadEntry broken))
  Takes (Err (fault.NotAccepted rule)) = IsAnswered (Err (fault.NotAccepted rule))
  Takes (Err fault.KeeperFault) = (IsWaiting × IsSome old.pending) ⊎ IsLeftPending
  Takes (Err fault.Memory) = IsWaiting ⊎ IsIdle

-- a replica is settled, or stays as it was
abbrev pub Settles : Replica → Replica → Result Unit KeepFault → Type 0
Settles old new (Ok done) =
    AreSettled (payloads_of old) (pending_of old.pending) (payloads_of new) × (new.pending ≡ None)
Settles old new (Err keep.Failed) = (new ≡ old) × IsSome (pending_of old.pending)
Settles old new (Err keep.Memory) = new ≡ old

-- settling fails as the keeper does
abbrev pub HasSettleCause : {T : Type 0} → ℕ → ℕ → Result T KeepFault → Type 0
HasSettleCause before now (Ok value) = now ≡ before
HasSettleCause before now (Err keep.Failed) = now ≡ risen before
HasSettleCause before now (Err keep.Memory) = now ≡ before

-- an entry may stand behind others as an opening finds the payload that spells it
abbrev pub Fits : List Entry → Entry → List ℕ → Type 0
Fits entries e payload = with_payload entries payload ≡ Ok (entries ++ e ∷ [])

-- a settled replica gives the answer of the step, or the payload is pending that may be added, or memory is wanting
module _ (number : ℕ) (payload : List ℕ) (old new : Replica) where
  pub record IsStep (given : Result Taken TakeFault) : Type 0 where
    pub answered : taken (payloads_of old) number payload ≡ given
    pub payloads : payloads_of new ≡ after_answer (payloads_of old) payload given
    pub pending : new.pending ≡ None

  pub record IsLeft : Type 0 where
    pub answered : taken (payloads_of old) number payload ≡ Ok Added
    pub payloads : payloads_of new ≡ payloads_of old
    pub pending : pending_of new.pending ≡ Some payload

  pub record IsStill : Type 0 where
    pub payloads : payloads_of new ≡ payloads_of old
    pub pending : new.pending ≡ None

  abbrev pub Steps : Result Taken TakeFault → Type 0
  Steps (Ok answer) = IsStep (Ok answer)
  Steps (Err (fault.Gap expected got)) = IsStep (Err (fault.Gap expected got))
  Steps (Err (fault.Conflict n)) = IsStep (Err (fault.Conflict n))
  Steps (Err (fault.BadEntry broken)) = IsStep (Err (fault.BadEntry broken))
  Steps (Err (fault.NotAccepted rule)) = IsStep (Err (fault.NotAccepted rule))
  Steps (Err fault.KeeperFault) = IsLeft
  Steps (Err fault.Memory) = IsStill

-- the payloads once it is known of the one that was pending whether it was found
abbrev pub resolved : List (List ℕ) → Option (List ℕ) → Option ℕ → List (List ℕ)
resolved payloads None found = payloads
resolved payloads (Some payload) None = payloads
resolved payloads (Some payload) (Some end) = payloads ++ payload ∷ []

abbrev pub resolved_end : ℕ → Option (List ℕ) → Option ℕ → ℕ
resolved_end end None found = end
resolved_end end (Some payload) None = end
resolved_end end (Some payload) (Some next) = next

-- a fault of the keeper is one more in its count of faults; else the count is as it was
abbrev pub HasTakeCause : {T : Type 0} → ℕ → ℕ → Result T TakeFault → Type 0
HasTakeCause before now (Ok value) = now ≡ before
HasTakeCause before now (Err (fault.Gap expected got)) = now ≡ before
HasTakeCause before now (Err (fault.Conflict n)) = now ≡ before
HasTakeCause before now (Err (fault.BadEntry broken)) = now ≡ before
HasTakeCause before now (Err (fault.NotAccepted rule)) = now ≡ before
HasTakeCause before now (Err fault.KeeperFault) = now ≡ risen before
HasTakeCause before now (Err fault.Memory) = now ≡ before

-- what a crash leaves of the keeper's list: what the replica said, or what it says now
abbrev pub StandsFor : Replica → Listing → Type 0
StandsFor replica list = Stands (payloads_of replica) (pending_of replica.pending) list

abbrev pub StandsForEither : Replica → Replica → Listing → Type 0
StandsForEither old new list = StandsFor old list ⊎ StandsFor new list

-- where a keeper tells it: a crash at any moment leaves one of these lists
abbrev pub LeavesLists : (Listing → Type 0) → Holding → Holding → Type 0
LeavesLists lists old new = old.tells → old.tells_crash → new.tells × LeavesOnly lists old new
