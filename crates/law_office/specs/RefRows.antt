-- The rows of references that are handed in of tables.
use Rattle.std.specs.Prelude.{ℕ, Bool, true, nat_lt, List, filter, map, Option, Some, None}
use Rattle.law_refs.specs.Missing.{text_refs}
use Rattle.law_refs.specs.declared.ref_row.RefRow.{RefRow}
use Rattle.version_cache.specs.Tables.{RowValue}

-- a row of a table of a work
abbrev pub row_handed : List ℕ → ℕ → RowValue → RefRow
row_handed work act_day row = record { work = work; act_day = act_day; from = Some row.day; refs = text_refs row.version.tree }

-- a day is after another; each is, where there is no other
abbrev pub is_after : Option ℕ → ℕ → Bool
is_after None day = true
is_after (Some touched) day = nat_lt touched day

-- the rows of a table that begin after a day, or all of them
abbrev pub rows_after : Option ℕ → List RowValue → List RowValue
rows_after day rows = filter (λ row. is_after day row.day) rows

-- those that are handed in of them
abbrev pub rows_handed : List ℕ → ℕ → Option ℕ → List RowValue → List RefRow
rows_handed work act_day day rows = map (row_handed work act_day) (rows_after day rows)
