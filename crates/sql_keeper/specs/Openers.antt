-- Who opens the connection of a keeper, and why SQLite refuses.
use Rattle.std.specs.Prelude.{ℕ, ◌≡◌, ◌↔◌, Result, Ok, Err}
use Rattle.desk_base.specs.Streams.{risen}
use Rattle.desk_base.specs.declared.load_fault.LoadFault.{LoadFault}
use Rattle.desk_base.specs.declared.load_fault.LoadFault.TheVariants as load_fault
use Rattle.law_journal.specs.Grammar.{Listing}
use Rattle.sqlite.specs.declared.error.Error.{Error}
use Rattle.sqlite.specs.declared.error.Error.TheVariants.{SqliteFailure}
use Rattle.sqlite.specs.declared.error.ErrorCode.{ErrorCode}
use Rattle.sqlite.specs.declared.error.ErrorCode.TheVariants.{OutOfMemory}
use Rattle.sqlite.specs.Store.{Ghosts}
use Rattle.sqlite.specs.Held.{Held, state}
use Rattle.sql_keeper.specs.Tables.{list_of}
use Rattle.sql_keeper.specs.Connections.{MayHaveTable}
use Rattle.sql_keeper.specs.declared.open_refused.OpenRefused.{OpenRefused}
use Rattle.sql_keeper.specs.declared.open_refused.OpenRefused.TheVariants.{Failed, Memory}

-- a refusal of SQLite, as it is told: want of memory, or a failure
abbrev pub told_as_code : ErrorCode → OpenRefused
told_as_code OutOfMemory = Memory
told_as_code _ = Failed

abbrev pub told_as : Error → OpenRefused
told_as (SqliteFailure code) = told_as_code code
told_as _ = Failed

-- what an opening answers, as it is told
abbrev pub told_opening : {C L : Type 0} → Result C (Error × L) → Result C OpenRefused
told_opening (Ok connection) = Ok connection
told_opening (Err refusal) = Err (told_as refusal.0)

-- want of memory is told only where SQLite was refused by that
abbrev pub WantsMemory : {T : Type 0} → Result T OpenRefused → (Error → Type 0) → Type 0
WantsMemory result Refuses = result ≡ Err Memory → (e : Error) × (told_as e ≡ Memory) × Refuses e

-- a refusal is one fault more, unless memory was wanting
abbrev pub HasCountedRefusal : ℕ → ℕ → OpenRefused → Type 0
HasCountedRefusal before now Failed = now ≡ risen before
HasCountedRefusal before now Memory = now ≡ before

-- and nothing else is
abbrev pub HasRefusalCause : {T : Type 0} → ℕ → ℕ → Result T OpenRefused → Type 0
HasRefusalCause before now (Ok value) = now ≡ before
HasRefusalCause before now (Err refusal) = HasCountedRefusal before now refusal

-- a refusal, as a keeper tells it
abbrev pub as_load_fault : OpenRefused → LoadFault
as_load_fault Failed = load_fault.Failed
as_load_fault Memory = load_fault.Memory

-- an opener tells as before, and finds the same list
abbrev pub FindsSame : Type 0 → Listing → Type 0 → Listing → Type 0
FindsSame tells list now_tells now_list = (tells ↔ now_tells) × (now_list ≡ list)

-- a connection is in order, and has this list
abbrev pub IsFound : {S : Type 0} → Ghosts S → Listing → Held S → Type 0
IsFound g list connection = MayHaveTable (state g connection) × (list_of (state g connection).now ≡ list)
