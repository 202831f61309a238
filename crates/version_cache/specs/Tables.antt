-- Tables: the versions of a work by day, each kept from the day on which it begins.
use Rattle.std.specs.Prelude.{◌≡◌, ◌<◌, ℕ, nat_le, nat_lt, length, List, [], ◌∷◌, ◌++◌, filter, map, Option, Some, None}
use Rattle.law_register.specs.declared.answer.question.Reading.{Reading}
use Rattle.law_register.specs.declared.register.known.Known.{Known}
use Rattle.law_register.specs.Answer.Breakpoints.{breakpoints}
use Rattle.law_register.specs.Answer.Replay.{VersionValue, as_enacted, replay_on}
use Rattle.version_cache.specs.Agreement.{IsEarly}

-- a day, and the version of a work from that day on
pub record RowValue : Type 0 where
  pub day : ℕ
  pub version : VersionValue

-- a table: the reading in which its versions are replayed, the act as enacted, and its rows
pub record TableValue : Type 0 where
  pub reading : Reading
  pub enacted : VersionValue
  pub rows : List RowValue

-- the rows whose day is not after this one
abbrev pub rows_until : ℕ → List RowValue → List RowValue
rows_until day rows = filter (λ row. nat_le row.day day) rows

-- the version of the last of these rows; the version before them where there is none
abbrev pub last_version : VersionValue → List RowValue → VersionValue
last_version before [] = before
last_version before (row ∷ rows) = last_version row.version rows

-- the version of a day: that of the last row whose day is not after it, or else the act as enacted
abbrev pub version_on : TableValue → ℕ → VersionValue
version_on table day = last_version table.enacted (rows_until day table.rows)

-- the rows whose day is before this one
abbrev pub rows_before : ℕ → List RowValue → List RowValue
rows_before day rows = filter (λ row. nat_lt row.day day) rows

-- a row for each of these days, with the version that replay from scratch makes of the work
abbrev pub rows_on : Known → Reading → List ℕ → List RowValue
rows_on known reading days = map (λ day. record { day = day; version = replay_on known reading day }) days

-- the table of a work of which this is known: a row for each breakpoint
abbrev pub table_of : Known → Reading → TableValue
table_of known reading = record {
  reading = reading;
  enacted = as_enacted known.act;
  rows = rows_on known reading (breakpoints known);
}

-- the breakpoints from a day on
abbrev pub breakpoints_from : Known → ℕ → List ℕ
breakpoints_from known touched = filter (λ day. nat_le touched day) (breakpoints known)

-- a revision of a table: the day from which its rows are made anew, how many rows stay, and the new rows
pub record RevisionValue : Type 0 where
  pub touched : ℕ
  pub kept : ℕ
  pub rows : List RowValue

-- the revision of a table from a day on, by what is known now
abbrev pub revision_of : TableValue → Known → ℕ → RevisionValue
revision_of table known touched = record {
  touched = touched;
  kept = length (rows_before touched table.rows);
  rows = rows_on known table.reading (breakpoints_from known touched);
}

-- the revision of a table that has the rows of another one's
abbrev pub revision_like : TableValue → RevisionValue → RevisionValue
revision_like table other = record {
  touched = other.touched;
  kept = length (rows_before other.touched table.rows);
  rows = other.rows;
}

-- a revision is of this table: as many rows stay as it has before the touched day
abbrev pub IsRevisionOf : TableValue → RevisionValue → Type 0
IsRevisionOf table revision = revision.kept ≡ length (rows_before revision.touched table.rows)

-- a table after a revision: the rows before the touched day stay, and the new ones stand behind them
abbrev pub committed : TableValue → RevisionValue → TableValue
committed table revision = record table { rows = rows_before revision.touched table.rows ++ revision.rows }

-- a table is right: it has the act as enacted, and on each day the version that replay from scratch gives
pub record IsRight (known : Known) (table : TableValue) : Type 0 where
  pub enacted : table.enacted ≡ as_enacted known.act
  pub versions : (day : ℕ) → version_on table day ≡ replay_on known table.reading day

-- a table is right on each day before this one
pub record IsRightBefore (known : Known) (touched : ℕ) (table : TableValue) : Type 0 where
  pub enacted : table.enacted ≡ as_enacted known.act
  pub versions : (day : ℕ) → day < touched → version_on table day ≡ replay_on known table.reading day

-- a table is right on each day before the touched one; on all days, where there is none
abbrev pub IsRightUntil : Known → Option ℕ → TableValue → Type 0
IsRightUntil known None table = IsRight known table
IsRightUntil known (Some touched) table = IsRightBefore known touched table

-- a table is right on each day of the calendar before the touched one; on all days, where there is none
pub record IsRightEarly (known : Known) (touched : Option ℕ) (table : TableValue) : Type 0 where
  pub enacted : table.enacted ≡ as_enacted known.act
  pub versions : (day : ℕ) → IsEarly day touched → version_on table day ≡ replay_on known table.reading day
