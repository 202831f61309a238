-- The text of a table: rows of fields, as `csv` writes them with its defaults. A comma stands between two fields and a line feed
-- behind each row; a field with a comma, a quote or an end of a line stands between quotes, and a quote in it twice.
use Rattle.std.specs.Prelude.{ℕ, ◌≡◌, false, List, [], ◌∷◌, ◌++◌, Result, Ok, Err, Vec}
use Rattle.std.specs.Global.{Global}
use Rattle.csv.specs.Writing.{default_writer, row_text, writer_under, writer_pending, writer_setup, fields_written, has_written}
use Rattle.law_register.specs.declared.answer.queries.AskFault.{AskFault}
use Rattle.law_register.specs.declared.answer.queries.AskFault.TheVariants as fails
use Rattle.law_register.specs.declared.answer.queries.QueryRule.{QueryRule}
use Rattle.law_reports.specs.declared.table.Table.{Table}

-- the text of a row
abbrev pub row : List (List ℕ) → List ℕ
row fields = row_text default_writer fields

-- rows, one behind another
abbrev pub rows_text : List (List (List ℕ)) → List ℕ
rows_text [] = []
rows_text (fields ∷ more) = row fields ++ rows_text more

-- a table: a row of the names of its columns, and then its rows
abbrev pub table_text : List (List ℕ) → List (List (List ℕ)) → List ℕ
table_text names rows = row names ++ rows_text rows

-- what a table has so far: what its writer gave on, and what it still holds
abbrev pub written : Table → List ℕ
written t = (writer_under t.writer).items ++ writer_pending t.writer

-- only whole rows were written, by the defaults
pub record IsOpen (t : Table) : Type 0 where
  pub setup : writer_setup t.writer ≡ default_writer
  pub fields : fields_written t.writer ≡ 0
  pub wrote : has_written t.writer ≡ false

-- what is told is this text, or this rule; or there was not enough memory
abbrev pub Tells : Result (Vec ℕ Global) AskFault → Result (List ℕ) QueryRule → Type 0
Tells (Ok bytes) told = told ≡ Ok bytes.items
Tells (Err (fails.Query rule)) told = told ≡ Err rule
Tells (Err fails.Memory) told = Unit {0}
