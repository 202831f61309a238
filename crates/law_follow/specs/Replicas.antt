-- What a follower has, and how it stands to its keeper.
use Rattle.std.specs.Prelude.{ℕ, ◌≡◌, ◌≢◌, ◌≤◌, ◌+◌, List, [], ◌∷◌, ◌++◌, length, Option, Some, None, IfSome, Result, Ok, Err}
use Rattle.std.specs.Option.{option_map}
use Rattle.law_journal.specs.Grammar.{Listing}
use Rattle.law_keeper.specs.Keepers.{Holding, IsSettled, IsWithOrWithout}
use Rattle.law_keeper.specs.declared.readiness.Readiness.{Readiness}
use Rattle.law_keeper.specs.declared.readiness.Readiness.TheVariants.{Unopened, Ready}
use Rattle.law_register.specs.declared.desk.damage.Damage.{Damage}
use Rattle.law_register.specs.declared.desk.damage.Damage.TheVariants as damage
use Rattle.law_register.specs.declared.desk.open_fault.OpenFault.{OpenFault}
use Rattle.law_register.specs.declared.desk.open_fault.OpenFault.TheVariants as fails
use Rattle.law_register.specs.declared.register.entry.Entry.{Entry}
use Rattle.law_register.specs.Desk.States.{MayFollow}
use Rattle.law_register.specs.Register.Registers.{Contents}
use Rattle.entry_codec.specs.Entries.{spelling}
use Rattle.law_follow.specs.Opening.{opened, spellings, with_payload}
use Rattle.law_follow.specs.declared.replica.Pending.{Pending}
use Rattle.law_follow.specs.declared.replica.Replica.{Replica}
use Rattle.law_follow.specs.declared.unfit.Unfit.{Unfit}
use Rattle.law_follow.specs.declared.unfit.Unfit.TheVariants as unfit

-- what is moved by what a follower takes: its payloads, and the one of which it is not known whether the keeper has it
pub record Standing : Type 0 where
  pub payloads : List (List ℕ)
  pub pending : Option (List ℕ)

abbrev pub payloads_of : Replica → List (List ℕ)
payloads_of replica = spellings replica.register.entries

abbrev pub pending_of : Option Pending → Option (List ℕ)
pending_of pending = option_map (λ p. p.payload.items) pending

abbrev pub standing_of : Replica → Standing
standing_of replica = record { payloads = payloads_of replica; pending = pending_of replica.pending }

-- a payload is judged as an opening would find it behind those of these entries
abbrev pub Judges : List Entry → Result Entry Unfit → Result (List Entry) Damage → Type 0
Judges entries (Ok e) told = told ≡ Ok (entries ++ e ∷ [])
Judges entries (Err (unfit.NoEntry fault)) told = told ≡ Err (damage.Entry (length entries + 1) fault.place fault.byte)
Judges entries (Err (unfit.NotAccepted rule)) told = told ≡ Err (damage.Order (length entries + 1) rule)
Judges entries (Err unfit.Memory) told = Unit {0}

-- why an opening is refused at such a payload
abbrev pub IsDamageOf : List Entry → Unfit → OpenFault → Type 0
IsDamageOf entries (unfit.NoEntry fault) given = given ≡ fails.Damaged (damage.Entry (length entries + 1) fault.place fault.byte)
IsDamageOf entries (unfit.NotAccepted rule) given = given ≡ fails.Damaged (damage.Order (length entries + 1) rule)
IsDamageOf entries unfit.Memory given = given ≡ fails.Memory

-- a payload that is pending is found behind the others as this entry, for which there is room
pub record IsPendingOn (register : Contents) (p : Pending) : Type 0 where
  pub follows : MayFollow register.entries p.entry
  pub room : 1 ≤ register.spare
  pub bytes : spelling p.entry ≡ p.payload.items
  pub fits : with_payload register.entries p.payload.items ≡ Ok (register.entries ++ p.entry ∷ [])

-- a replica is right in itself: its entries are those that an opening finds in what spells them, and what is pending is right
pub record IsRight (replica : Replica) : Type 0 where
  pub opens : opened (payloads_of replica) ≡ Ok replica.register.entries
  pub pending : IfSome replica.pending (IsPendingOn replica.register)

-- a list is these payloads; where one is pending, it may stand behind them or not
abbrev pub Stands : List (List ℕ) → Option (List ℕ) → Listing → Type 0
Stands payloads None list = list ≡ Ok payloads
Stands payloads (Some payload) list = IsWithOrWithout (Ok payloads) payload list

-- where a keeper tells it, a crash leaves one of these lists
abbrev pub MayLeave : Holding → (Listing → Type 0) → Type 0
MayLeave h lists = h.tells → h.tells_crash → (list : Listing) → h.may_leave list → lists list

-- a keeper holds payloads and the one that is pending: it was opened, is ready unless one is pending, and where it tells
-- its list, that is these payloads, the cursor stands behind them, and where one is pending, a crash leaves them, with it
-- or without it
pub record Holds (h : Holding) (readiness : Readiness) (payloads : List (List ℕ)) (pending : Option (List ℕ)) (cursor : ℕ)
    : Type 0 where
  pub opened : readiness ≢ Unopened
  pub ready : pending ≡ None → readiness ≡ Ready
  pub settled : readiness ≡ Ready → IsSettled h
  pub list : h.tells → Stands payloads pending h.list
  pub end : h.tells → h.place_of cursor ≡ Some (length payloads)
  pub durable : IfSome pending (λ payload. MayLeave h (IsWithOrWithout (Ok payloads) payload))

-- a keeper holds what a replica says
abbrev pub HoldsReplica : Holding → Readiness → Replica → Type 0
HoldsReplica h readiness replica = Holds h readiness (payloads_of replica) (pending_of replica.pending) replica.end
