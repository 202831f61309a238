-- What a connection of a keeper holds between two statements, and what each statement makes of it.
use Rattle.std.specs.Prelude.{ℕ, suc, ◌≡◌, ◌⊎◌, ◌<◌, Bool, true, false, List, [], ◌∷◌, ◌++◌, length, slice_get, Some, None, Result, Ok, Err, IsTrue, IsSome, OnOk}
use Rattle.desk_base.specs.declared.load_fault.LoadFault.{LoadFault}
use Rattle.desk_base.specs.declared.load_fault.LoadFault.TheVariants.{Failed, Damaged, Memory}
use Rattle.law_journal.specs.Grammar.{Listing, is_size}
use Rattle.law_journal.specs.Journals.{Tells}
use Rattle.sqlite.specs.Tree.{IsTable}
use Rattle.sqlite.specs.Order.{Row}
use Rattle.sqlite.specs.Store.{Ghosts}
use Rattle.sqlite.specs.State.{State, Shown}
use Rattle.sqlite.specs.Held.{Held, state}
use Rattle.sqlite.specs.Given.{HasGiven}
use Rattle.sql_keeper.specs.Tables.{entry_schema, no_schema, rows_in, entry_of, list_of}
use Rattle.sql_keeper.specs.declared.open_refused.OpenRefused.{OpenRefused}

-- it is open, it is in no transaction, all that it has is committed, and the rows of its table ascend
pub record IsAtRest (s : State) : Type 0 where
  pub is_open : IsTrue s.is_open
  pub autocommit : s.in_transaction ≡ false
  pub committed : s.committed ≡ s.now
  pub ascends : IsTable (rows_in s.now)

-- it has the keeper's table and no other, or may have that one
abbrev pub HasTable : State → Type 0
HasTable s = IsAtRest s × (s.now.schema ≡ entry_schema)

abbrev pub MayHaveTable : State → Type 0
MayHaveTable s = IsAtRest s × ((s.now.schema ≡ no_schema) ⊎ (s.now.schema ≡ entry_schema))

-- a statement that leaves the connection at rest with what it had
abbrev pub IsSame : State → State → Type 0
IsSame old new = IsAtRest new × (new.now ≡ old.now)

-- where a connection is open at the end: what a statement makes of one that it was given in order
abbrev pub Leads : (State → Type 0) → State → State → Type 0 → Type 0
Leads Given old new Found = IsTrue new.is_open → Given old → Found

-- the table is there, and its list is as it was
abbrev pub MakesTable : {T E : Type 0} → State → State → Result T E → Type 0
MakesTable old new result =
    Leads MayHaveTable old new (MayHaveTable new × (list_of new.now ≡ list_of old.now) × OnOk result (HasTable new))

-- the rows are counted: they stand for a list of so many payloads, or have the damage that is told
abbrev pub Counts : Listing → Result ℕ LoadFault → Type 0
Counts listing (Ok rows) = (payloads : List (List ℕ)) × (listing ≡ Ok payloads) × (length payloads ≡ rows)
Counts listing (Err fault) = Tells listing fault

abbrev pub CountsRows : State → State → Result ℕ LoadFault → Type 0
CountsRows old new result = Leads HasTable old new (IsSame old new × Counts (list_of old.now) result)

-- a row has to be the entry of a number
abbrev pub IsChecked : ℕ → Row → Result Bool LoadFault → Type 0
IsChecked number row (Ok true) = IsSome (entry_of number row)
IsChecked number row (Ok false) = ⊥
IsChecked number row (Err Failed) = ⊥
IsChecked number row (Err (Damaged place byte)) = (entry_of number row ≡ None) × (place ≡ number) × (byte ≡ None)
IsChecked number row (Err Memory) = ⊥

module _ {S : Type 0} (g : Ghosts S) (old new : Held S) where
  -- one row more of a query that has given these is checked, or they are its answer
  abbrev pub ChecksNext : List ℕ → Row → List Row → ℕ → Result Bool LoadFault → Type 0
  ChecksNext sql params given number (Ok true) = (row : Row) × HasGiven g sql params new (given ++ row ∷ []) × IsChecked number row (Ok true)
  ChecksNext sql params given number (Ok false) = Shown sql params (state g old) (state g new) given
  ChecksNext sql params given number (Err Failed) = Unit {0}
  ChecksNext sql params given number (Err (Damaged place byte)) = (row : Row) × HasGiven g sql params new (given ++ row ∷ []) × IsChecked number row (Err (Damaged place byte))
  ChecksNext sql params given number (Err Memory) = Unit {0}

  abbrev pub StepsOn : ℕ → Result Bool LoadFault → Type 0
  StepsOn number result = Leads IsAtRest (state g old) (state g new) (IsSame (state g old) (state g new)
      × ((sql : List ℕ) (params : Row) (given : List Row) → HasGiven g sql params old given → ChecksNext sql params given number result))

-- the payload of a number is given, where a list has so many
abbrev pub IsPayloadOf : Listing → ℕ → List ℕ → Type 0
IsPayloadOf listing number payload = (payloads : List (List ℕ)) (n : ℕ) → listing ≡ Ok payloads → number ≡ suc n
    → n < length payloads → slice_get payloads n ≡ Some payload

abbrev pub GivesRow : State → State → ℕ → List ℕ → Result Unit OpenRefused → Type 0
GivesRow old new number payload result =
    Leads HasTable old new (IsSame old new × OnOk result (IsPayloadOf (list_of old.now) number payload))

-- the payload of the next number is put behind a list; a refusal leaves the list
abbrev pub IsPutBehind : Listing → ℕ → List ℕ → Listing → Result Unit OpenRefused → Type 0
IsPutBehind old number payload new (Ok done) = (payloads : List (List ℕ)) → old ≡ Ok payloads
    → number ≡ suc (length payloads) → IsTrue (is_size (length payload)) → new ≡ Ok (payloads ++ payload ∷ [])
IsPutBehind old number payload new (Err refusal) = new ≡ old

abbrev pub PutsRow : State → State → ℕ → List ℕ → Result Unit OpenRefused → Type 0
PutsRow old new number payload result =
    Leads HasTable old new (HasTable new × IsPutBehind (list_of old.now) number payload (list_of new.now) result)
