-- Which entries the payloads of a keeper stand for, or what keeps a register from being opened.
use Rattle.std.specs.Prelude.{ℕ, ◌≡◌, ◌⊎◌, ◌+◌, ◌<◌, ◌≤◌, List, [], ◌∷◌, ◌++◌, length, map, Option, Some, None, Result, Ok, Err, IfOk, if◌then◌else◌}
use Rattle.std.specs.List.{AllByRecursion}
use Rattle.desk_base.specs.Streams.{risen}
use Rattle.law_journal.specs.Grammar.{Listing}
use Rattle.law_keeper.specs.Keepers.{Holding}
use Rattle.law_register.specs.declared.desk.damage.Damage.{Damage}
use Rattle.law_register.specs.declared.desk.damage.Damage.TheVariants as damage
use Rattle.law_register.specs.declared.desk.open_fault.OpenFault.{OpenFault}
use Rattle.law_register.specs.declared.desk.open_fault.OpenFault.TheVariants as fails
use Rattle.law_register.specs.declared.register.entry.Entry.{Entry}
use Rattle.law_register.specs.declared.register.verdict.Verdict.{Verdict}
use Rattle.law_register.specs.declared.register.verdict.Verdict.TheVariants.{Accepted, Repeat, Refused}
use Rattle.law_register.specs.Answer.Renewing.{opening_cost}
use Rattle.law_register.specs.Law.Same.{same_number}
use Rattle.law_register.specs.Register.Rules.{register_number}
use Rattle.law_register.specs.Register.Verdicts.{verdict}
use Rattle.law_refs.specs.Handing.{judged_at_opening}
use Rattle.entry_codec.specs.declared.fault.CodecFault.{CodecFault}
use Rattle.entry_codec.specs.Entries.{spelling, decoding}

-- the payloads that spell these entries
abbrev pub spellings : List Entry → List (List ℕ)
spellings entries = map spelling entries

-- the number of the rule for which an entry with this law number may not stand where this is said of its command, if
-- there is one: that of a reused request number for a repeat, and 0 where another law number would be given
abbrev pub order_rule : Option ℕ → Verdict → Option ℕ
order_rule law (Accepted number reply) = if same_number law number then None else Some 0
order_rule law (Repeat reply) = Some 1
order_rule law (Refused rule) = Some (register_number rule)

-- entries with one more behind, unless a rule refuses it
abbrev pub with_ordered : List Entry → Entry → Option ℕ → Result (List Entry) Damage
with_ordered entries entry None = Ok (entries ++ entry ∷ [])
with_ordered entries entry (Some rule) = Err (damage.Order (length entries + 1) rule)

-- entries with one more behind, which is accepted there
unfoldable pub with_entry : List Entry → Entry → Result (List Entry) Damage
with_entry entries entry =
    with_ordered entries entry (order_rule entry.law (verdict entries entry.drafter entry.request entry.command))

-- entries with that behind which was decoded
abbrev pub with_decoded : List Entry → Result Entry CodecFault → Result (List Entry) Damage
with_decoded entries (Ok entry) = with_entry entries entry
with_decoded entries (Err fault) = Err (damage.Entry (length entries + 1) fault.place fault.byte)

-- entries with the one behind that a payload spells
unfoldable pub with_payload : List Entry → List ℕ → Result (List Entry) Damage
with_payload entries payload = with_decoded entries (decoding payload)

-- the entries go on, unless there was damage before
abbrev pub goes_on : Result (List Entry) Damage → (List Entry → Result (List Entry) Damage) → Result (List Entry) Damage
goes_on (Ok entries) next = next entries
goes_on (Err broken) next = Err broken

-- the entries that payloads stand for behind others, or the first damage
abbrev pub opened_behind : List Entry → List (List ℕ) → Result (List Entry) Damage
opened_behind entries [] = Ok entries
opened_behind entries (payload ∷ payloads) =
    goes_on (with_payload entries payload) (λ more. opened_behind more payloads)

-- the entries that payloads stand for, or the first damage
abbrev pub opened : List (List ℕ) → Result (List Entry) Damage
opened payloads = opened_behind [] payloads

-- the same of what a keeper has
abbrev pub opened_of : Listing → Result (List Entry) Damage
opened_of (Ok payloads) = opened payloads
opened_of (Err broken) = Err (damage.Journal broken.place broken.byte)

-- payloads that are lists of bytes
abbrev pub AreOfBytes : List (List ℕ) → Type 0
AreOfBytes payloads = AllByRecursion (λ payload. AllByRecursion (λ byte. byte < 256) payload) payloads

-- the same of what a keeper has, where that has payloads
abbrev pub HasBytes : Listing → Type 0
HasBytes list = IfOk list AreOfBytes

-- an opening is refused as is told; or the keeper failed, or there was not enough memory
abbrev pub Refuses : {A : Type 0} → OpenFault → Result A Damage → Type 0
Refuses (fails.Damaged broken) told = told ≡ Err broken
Refuses fails.Failed told = Unit {0}
Refuses fails.Memory told = Unit {0}

-- an opening gives what is told, as clauses see it, or is refused
abbrev pub Opens : {A : Type 0} → (A → List Entry) → Result A OpenFault → Result (List Entry) Damage → Type 0
Opens entries_of (Ok value) told = told ≡ Ok (entries_of value)
Opens entries_of (Err fault) told = Refuses fault told

-- a payload is refused for what it is, or for want of memory
abbrev pub IsOfPayload : OpenFault → Type 0
IsOfPayload fails.Failed = ⊥
IsOfPayload (fails.Damaged broken) = Unit {0}
IsOfPayload fails.Memory = Unit {0}

-- an opening fails only where the count of faults rose by one; else the count is as it was, but for damage that the
-- keeper may have counted
abbrev pub HasDamageCause : ℕ → ℕ → Damage → Type 0
HasDamageCause before now (damage.Journal place byte) = (now ≡ before) ⊎ (now ≡ risen before)
HasDamageCause before now (damage.Entry number place byte) = now ≡ before
HasDamageCause before now (damage.Order number rule) = now ≡ before

abbrev pub HasOpenCause : {A : Type 0} → ℕ → ℕ → Result A OpenFault → Type 0
HasOpenCause before now (Ok value) = now ≡ before
HasOpenCause before now (Err fails.Failed) = now ≡ risen before
HasOpenCause before now (Err (fails.Damaged broken)) = HasDamageCause before now broken
HasOpenCause before now (Err fails.Memory) = now ≡ before

-- the same of an opening that is refused
abbrev pub HasRefusalCause : ℕ → ℕ → OpenFault → Type 0
HasRefusalCause before now fault = HasOpenCause {A = Unit {0}} before now (Err fault)

-- a refusal leaves the count as it was, unless the keeper failed: damage is no fault
abbrev pub StaysUnlessFailed : ℕ → ℕ → OpenFault → Type 0
StaysUnlessFailed before now fails.Failed = Unit {0}
StaysUnlessFailed before now (fails.Damaged broken) = now ≡ before
StaysUnlessFailed before now fails.Memory = now ≡ before

-- how many ids are applied to make what is kept of the works that are found, and how many references of their texts are judged; none,
-- where there is damage
abbrev pub cost_opened : Result (List Entry) Damage → ℕ
cost_opened (Ok entries) = opening_cost entries + judged_at_opening entries
cost_opened (Err broken) = 0

-- the steps of an opening that was refused: none, but where there was not enough memory for what is kept of the works
abbrev pub TakesRefused : Holding → ℕ → ℕ → OpenFault → Type 0
TakesRefused h before after (fails.Damaged damage) = after ≡ before
TakesRefused h before after fails.Failed = after ≡ before
TakesRefused h before after fails.Memory = h.tells → after ≤ before + cost_opened (opened_of h.list)
