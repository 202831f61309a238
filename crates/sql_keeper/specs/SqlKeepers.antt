-- Keepers over a table of SQLite.
use Rattle.std.specs.Prelude.{ℕ, suc, ◌≡◌, ◌≢◌, ◌⊎◌, ◌+◌, ◌-◌, ◌^◌, min, nat_le, List, [], ◌∷◌, ◌++◌, length, if◌then◌else◌, Option, Some, None, Result, Ok, Err, IsTrue, IsOk, OnOk, refl}
use Rattle.std.proofs.Common.{inl}
use Rattle.std.specs.Coded.{Coded, code_by, coded×, coded_ℕ, coded_option}
use Rattle.desk_base.specs.declared.load_fault.LoadFault.{LoadFault}
use Rattle.desk_base.specs.declared.load_fault.LoadFault.TheVariants.{Failed, Damaged, Memory}
use Rattle.law_journal.specs.Grammar.{Listing, is_size}
use Rattle.law_keeper.specs.declared.readiness.Readiness.{Readiness}
use Rattle.law_keeper.specs.declared.readiness.Readiness.TheVariants.{Unopened, Ready}
use Rattle.law_keeper.specs.contracts.readiness.Readiness as readiness
use Rattle.law_keeper.specs.Keepers.{Holding, IsHolding, HasDamageCause, GivesAt}
use Rattle.sqlite.specs.Store.{Ghosts}
use Rattle.sqlite.specs.Tree.{Trees}
use Rattle.sqlite.specs.Held.{Held, held_code, state}
use Rattle.sql_keeper.specs.Tables.{list_of}
use Rattle.sql_keeper.specs.Connections.{HasTable, MayHaveTable, Counts}
use Rattle.sql_keeper.specs.declared.open_refused.OpenRefused.{OpenRefused}

-- a keeper: its opener, the connection that it has opened, whether it is ready, how many rows it has counted, and the
-- faults that it has counted
pub record HeldKeeper (O S : Type 0) : Type 0 where
  pub opener : O
  pub connection : Option (Held S)
  pub readiness : Readiness
  pub rows : ℕ
  pub faults : ℕ

abbrev pub held_keeper_code : {O S : Type 0} → Coded O → Coded S → Coded (HeldKeeper O S)
held_keeper_code {O} {S} opener store =
    code_by (O × (Option (Held S) × (Readiness × (ℕ × ℕ))))
    (coded× opener (coded× (coded_option (held_code store)) (coded× readiness.the_row.coded (coded× coded_ℕ coded_ℕ))))
    (λ k. (k.opener, (k.connection, (k.readiness, (k.rows, k.faults)))))
    (λ p. record { opener = p.0; connection = p.1.0; readiness = p.1.1.0; rows = p.1.1.1.0; faults = p.1.1.1.1 })
    (λ _. refl)

-- the faults of an opener, and those that its keeper counted
abbrev pub sum_of : ℕ → ℕ → ℕ
sum_of opener own = min (opener + own) (2 ^ 64 - 1)

-- damage that is found once a keeper has been opened is counted as one fault, and nothing else is
abbrev pub CountsDamage : {T : Type 0} → Readiness → ℕ → ℕ → Result T LoadFault → Type 0
CountsDamage readiness before now (Ok value) = now ≡ before
CountsDamage readiness before now (Err Failed) = now ≡ before
CountsDamage readiness before now (Err (Damaged place byte)) = HasDamageCause readiness before now
CountsDamage readiness before now (Err Memory) = now ≡ before

-- a cursor is how many payloads stand before it
abbrev pub place_in : Listing → ℕ → Option ℕ
place_in (Ok payloads) cursor = if nat_le cursor (length payloads) then Some cursor else None
place_in (Err damage) cursor = None

-- what is known of a keeper that has a list: what a crash leaves is told at the end of a call alone, and is the list, or
-- what is left by the store
abbrev pub told_holding : Type 0 → Listing → (Listing → Type 0) → Holding
told_holding tells list IsLeft = record {
  tells = tells;
  list = list;
  place_of = λ cursor. place_in list cursor;
  tells_crash = tells;
  may_leave = λ left. (left ≡ list) ⊎ IsLeft left;
  tells_moments = ⊥;
  moment = 0;
  left_since = λ t left. ⊥;
}

pub told_is : (tells : Type 0) (list : Listing) (IsLeft : Listing → Type 0) → IsHolding (told_holding tells list IsLeft)
told_is tells list IsLeft = record {
  stays = λ t. inl refl;
  counts_now = λ t. absurd t;
  only_now = λ t. absurd t;
}

module _ {S : Type 0} (g : Ghosts S) where
  -- no failure shuts a connection
  abbrev pub StaysOpen : Type 0
  StaysOpen = (connection : Held S) → IsTrue (state g connection).is_open

  -- the list of a connection, or where there is none yet, the one that an opening finds
  abbrev pub list_in : Listing → Option (Held S) → Listing
  list_in found None = found
  list_in found (Some connection) = list_of (state g connection).now

  -- a connection that was opened is in order; it has the table
  abbrev pub IsInOrder : Option (Held S) → Type 0
  IsInOrder None = Unit {0}
  IsInOrder (Some connection) = MayHaveTable (state g connection)

  abbrev pub TableIsIn : Option (Held S) → Type 0
  TableIsIn None = ⊥
  TableIsIn (Some connection) = HasTable (state g connection)

  -- the lists of the trees that a crash may leave of a store
  abbrev pub left_in : Option (Held S) → Listing → Type 0
  left_in None list = ⊥
  left_in (Some connection) list = (trees : Trees) × (state g connection).may_leave trees × (list ≡ list_of (record { schema = connection.schema; trees = trees }))

  -- what is known of a keeper over an opener that tells, or does not
  abbrev pub holding_of : Type 0 → Listing → Option (Held S) → Holding
  holding_of tells found connection = told_holding tells (list_in found connection) (left_in connection)

  -- a connection has a list of as many payloads as rows were counted
  abbrev pub HasList : Listing → Option (Held S) → ℕ → Type 0
  HasList found connection rows = TableIsIn connection × ((payloads : List (List ℕ)) × (list_in found connection ≡ Ok payloads) × (length payloads ≡ rows))

  -- what holds of a keeper that tells its list
  pub record IsKept (found : Listing) (connection : Option (Held S)) (ready : Readiness) (rows : ℕ) : Type 0 where
    pub in_order : IsInOrder connection
    pub opened : ready ≢ Unopened → IsOk (list_in found connection)
    pub list : ready ≡ Ready → HasList found connection rows

  -- a connection is opened where there was none, and the list stays
  abbrev pub Connects : Type 0 → Listing → Option (Held S) → Option (Held S) → Type 0
  Connects tells found old new = tells → IsInOrder old → IsInOrder new × (list_in found new ≡ list_in found old)

  -- the rows are counted, and the list stays
  abbrev pub ListsRows : Listing → Option (Held S) → Option (Held S) → Result ℕ LoadFault → Type 0
  ListsRows found old new result = StaysOpen → IsInOrder old → IsInOrder new × (list_in found new ≡ list_in found old)
      × Counts (list_in found old) result × OnOk result (TableIsIn new)

  -- a payload is given, and the list stays
  abbrev pub LoadsRow : Option (Held S) → Option (Held S) → ℕ → ℕ → Result (Option (List ℕ × ℕ)) LoadFault → Type 0
  LoadsRow old new rows cursor result = StaysOpen → TableIsIn old → (found : Listing) → TableIsIn new × (list_in found new ≡ list_in found old)
      × ((payloads : List (List ℕ)) (n : ℕ) → list_in found old ≡ Ok payloads → length payloads ≡ rows → place_in (Ok payloads) cursor ≡ Some n
      → GivesAt payloads n (place_in (Ok payloads)) result)

  -- a payload is put behind those that were counted, or the list stays
  abbrev pub IsAppended : Listing → ℕ → List ℕ → Listing → Result ℕ OpenRefused → Type 0
  IsAppended old rows payload new (Ok now) = (payloads : List (List ℕ)) → old ≡ Ok payloads → length payloads ≡ rows
      → IsTrue (is_size (length payload)) → (new ≡ Ok (payloads ++ payload ∷ [])) × (now ≡ suc rows)
  IsAppended old rows payload new (Err refusal) = new ≡ old

  abbrev pub AppendsRow : Option (Held S) → Option (Held S) → ℕ → List ℕ → Result ℕ OpenRefused → Type 0
  AppendsRow old new rows payload result = StaysOpen → TableIsIn old → (found : Listing) → TableIsIn new × IsAppended (list_in found old) rows payload (list_in found new) result
