-- Keepers over a journal.
use Rattle.std.specs.Prelude.{ℕ, ◌≡◌, ◌+◌, Bool, true, false, List, Option, Result, Ok, Err, refl}
use Rattle.desk_base.specs.Streams.{risen}
use Rattle.desk_base.specs.declared.load_fault.LoadFault.{LoadFault}
use Rattle.desk_base.specs.declared.load_fault.LoadFault.TheVariants.{Failed, Damaged, Memory}
use Rattle.law_journal.specs.Disks.{Outlook, IsOutlook}
use Rattle.law_journal.specs.Grammar.{Listing, gate_in, list_of}
use Rattle.law_keeper.specs.Keepers.{Holding, IsHolding, Gives, Appends, AppendsAll, LeavesNoMore, LeavesOneOfTwo, LeavesFront}
use Rattle.law_keeper.specs.declared.keep_fault.KeepFault.{KeepFault}
use Rattle.law_keeper.specs.declared.readiness.Readiness.{Readiness}
use Rattle.law_keeper.specs.declared.readiness.Readiness.TheVariants.{Unopened, Ready, Stopped}

-- some of these files stands for this list
abbrev pub StandsFor : (List ℕ → Type 0) → Listing → Type 0
StandsFor files list = (file : List ℕ) × files file × (list_of file ≡ list)

-- what is known of a keeper, of its journal's disk: its list is that of the file, its cursors are the places of the
-- gates less 8, and a crash leaves the lists of the files that the disk may leave
abbrev pub holding_of : Outlook → Holding
holding_of o = record {
  tells = o.tells;
  list = list_of o.seen;
  place_of = λ cursor. gate_in (list_of o.seen) (cursor + 8);
  tells_crash = o.tells;
  may_leave = λ list. StandsFor o.may_leave list;
  tells_moments = o.tells;
  moment = o.moment;
  left_since = λ t list. StandsFor (o.left_since t) list;
}

pub holding_is : (o : Outlook) → IsOutlook o → IsHolding (holding_of o)
holding_is o is = record {
  stays = λ t. (o.seen, is.stays t, refl);
  counts_now = λ told t list le left. (left.0, is.counts_now t left.0 le left.1, left.2);
  only_now = λ told list left. (left.0, is.only_now left.0 left.1, left.2);
}

-- what is loaded, what an append makes of the list, of one payload or of several, and what a crash leaves of one, by the
-- disk before and after
abbrev pub Loads : Outlook → ℕ → Outlook → Result (Option (List ℕ × ℕ)) LoadFault → Type 0
Loads old cursor new result = Gives (holding_of old) cursor (holding_of new) result

abbrev pub Adds : List ℕ → Outlook → Outlook → Result ℕ KeepFault → Type 0
Adds payload old new result = Appends payload (holding_of old) (holding_of new) result

abbrev pub AddsAll : List (List ℕ) → Outlook → Outlook → Result ℕ KeepFault → Type 0
AddsAll payloads old new result = AppendsAll payloads (holding_of old) (holding_of new) result

abbrev pub LeavesEither : List ℕ → Outlook → Outlook → Type 0
LeavesEither payload old new = LeavesOneOfTwo payload (holding_of old) (holding_of new)

abbrev pub LeavesSome : List (List ℕ) → Outlook → Outlook → Type 0
LeavesSome payloads old new = LeavesFront payloads (holding_of old) (holding_of new)

abbrev pub LeavesAsMuch : Outlook → Outlook → Type 0
LeavesAsMuch old new = LeavesNoMore (holding_of old) (holding_of new)

-- a keeper that was opened is ready while its journal is
abbrev pub readiness_of : Bool → Bool → Readiness
readiness_of false ready = Unopened
readiness_of true true = Ready
readiness_of true false = Stopped

-- damage that is found once a keeper has been opened is counted as one fault
abbrev pub HasDamage : Bool → ℕ → ℕ → Type 0
HasDamage true before now = now ≡ risen before
HasDamage false before now = now ≡ before

-- and nothing else is
abbrev pub CountsDamage : {T : Type 0} → Bool → ℕ → ℕ → Result T LoadFault → Type 0
CountsDamage opened before now (Ok value) = now ≡ before
CountsDamage opened before now (Err Failed) = now ≡ before
CountsDamage opened before now (Err (Damaged place byte)) = HasDamage opened before now
CountsDamage opened before now (Err Memory) = now ≡ before
