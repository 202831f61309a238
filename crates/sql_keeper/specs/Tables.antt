-- The table of a keeper, its three statements, and the list that its rows stand for.
use Rattle.std.specs.Prelude.{ℕ, suc, pos, true, false, Bool, ◌==◌, if◌then◌else◌, List, [], ◌∷◌, length, map, codes, slice_get, Option, Some, None, option_map, option_and_then, unwrap_or, Ok, Err}
use Rattle.law_journal.specs.Grammar.{Listing, is_size, with_first}
use Rattle.sqlite.specs.Collation.TheVariants.{Binary}
use Rattle.sqlite.specs.declared.types.Value.{Value}
use Rattle.sqlite.specs.declared.types.Value.TheVariants.{Null, Int, Blob as Bytes}
use Rattle.sqlite.specs.Order.{Row, column}
use Rattle.sqlite.specs.Table.{Table}
use Rattle.sqlite.specs.Schema.{Schema}
use Rattle.sqlite.specs.Kind.TheVariants.{Integer, Blob}
use Rattle.sqlite.specs.Effect.{Database}
use Rattle.sqlite_schema.specs.Names.{table_named}

-- the table of a database that has no other
abbrev pub entry : Table
entry = record {
  name = codes "entry";
  tree = 0;
  columns = (record { name = codes "number"; kind = Integer; is_strict = true; not_null = false; default = Null; collation = Binary })
      ∷ (record { name = codes "payload"; kind = Blob; is_strict = true; not_null = true; default = Null; collation = Binary }) ∷ [];
  key = Some 0;
  primary = 0 ∷ [];
  uniques = [];
  orders = [];
  checks = [];
  references = [];
  computed = [];
  stamps = record { places = []; terms = []; formats = [] };
  is_counted = false;
}

abbrev pub entry_schema : Schema
entry_schema = record { tables = entry ∷ []; indexes = []; views = [] }

abbrev pub no_schema : Schema
no_schema = record { tables = []; indexes = []; views = [] }

-- the statements: the table is made, a row is put in, the rows are shown in the order of their numbers, and the payload of a number
abbrev pub create_text : List ℕ
create_text = codes "CREATE TABLE IF NOT EXISTS entry (number INTEGER PRIMARY KEY, payload BLOB NOT NULL) STRICT"

abbrev pub insert_text : List ℕ
insert_text = codes "INSERT INTO entry (number, payload) VALUES (?1, ?2)"

abbrev pub rows_text : List ℕ
rows_text = codes "SELECT number, payload FROM entry ORDER BY number"

abbrev pub row_text : List ℕ
row_text = codes "SELECT payload FROM entry WHERE number = ?1"

-- the rows of the table of that name; none where there is no such table
abbrev pub rows_in : Database → List Row
rows_in db = unwrap_or (option_map (λ t. db.trees t.tree)
    (option_and_then (slice_get db.schema.tables) (table_named db.schema (codes "entry")))) []

-- a row as it is stored: its number, nothing in the column that the number stands for, and its payload
abbrev pub stored : ℕ → List ℕ → Row
stored number payload = Int (pos number) ∷ Null ∷ Bytes payload ∷ []

-- the number and the payload of a stored row
abbrev pub shown : Row → Row
shown row = column row 0 ∷ column row 2 ∷ []

-- the payload of 1 to 16,777,216 bytes that a value is
abbrev pub payload_in : Value → Option (List ℕ)
payload_in (Bytes payload) = if is_size (length payload) then Some payload else None
payload_in _ = None

-- whether a value is a number
abbrev pub is_number : ℕ → Value → Bool
is_number number (Int (pos n)) = n == number
is_number number _ = false

-- the payload of a row that is the entry of a number
abbrev pub entry_of : ℕ → Row → Option (List ℕ)
entry_of number row = if is_number number (column row 0) then payload_in (column row 1) else None

-- a payload in front of a list, or the damage of the row of a number
abbrev pub listed : ℕ → Option (List ℕ) → Listing → Listing
listed number (Some payload) behind = with_first payload behind
listed number None behind = Err (record { place = number; byte = None })

-- the payloads of rows that are the entries of the numbers from one on, or the first row that is not
abbrev pub list_from : ℕ → List Row → Listing
list_from number [] = Ok []
list_from number (row ∷ rows) = listed number (entry_of number row) (list_from (suc number) rows)

-- the list that a database's table stands for
abbrev pub list_of : Database → Listing
list_of db = list_from 1 (map shown (rows_in db))
