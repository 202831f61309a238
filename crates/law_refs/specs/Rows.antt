-- The rows of a work: its references from a day on.
use Rattle.std.specs.Prelude.{ℕ, ◌-◌, Bool, true, false, nat_lt, nat_le, List, [], ◌∷◌, length, map, filter, Option, Some, None, option_map, if◌then◌else◌}
use Rattle.std.specs.List.{slice_get}
use Rattle.law_refs.specs.Judging.{Answers, judged, judged_again}
use Rattle.law_refs.specs.declared.node_ref.JudgedRef.{JudgedRef}
use Rattle.law_refs.specs.declared.ref_row.DayRefs.{DayRefs}
use Rattle.law_refs.specs.declared.ref_row.RefRow.{RefRow}
use Rattle.law_refs.specs.declared.ref_row.WorkRefs.{WorkRefs}

-- a row that begins on the first of these days stands before one that begins on the other; the act as enacted, which has no day, stands
-- before every day
unfoldable pub is_before : Option ℕ → Option ℕ → Bool
is_before from None = false
is_before None (Some day) = true
is_before (Some from) (Some day) = nat_lt from day

-- a row that begins then has begun by the day
unfoldable pub has_begun : Option ℕ → ℕ → Bool
has_begun None day = true
has_begun (Some from) day = nat_le from day

-- the rows that stand before a day
abbrev pub rows_before : Option ℕ → List DayRefs → List DayRefs
rows_before day rows = filter (λ row. is_before row.from day) rows

-- the references of the last row that has begun by a day, or those found before
abbrev pub latest : ℕ → List JudgedRef → List DayRefs → List JudgedRef
latest day found [] = found
latest day found (row ∷ rows) = latest day (if has_begun row.from day then row.refs else found) rows

-- the references of a work on a day: those of the last row that has begun
abbrev pub refs_on : ℕ → List DayRefs → List JudgedRef
refs_on day rows = latest day [] rows

-- the references of the last row, if there is one
unfoldable pub last_refs : List DayRefs → Option (List JudgedRef)
last_refs rows = option_map (λ row. row.refs) (slice_get rows (length rows - 1))

-- a row as it is kept
unfoldable pub day_row : Answers → RefRow → DayRefs
day_row answers row = record { from = row.from; refs = map (judged answers) row.refs }

-- a row that was kept before these works moved
unfoldable pub again_row : Answers → List (List ℕ) → DayRefs → DayRefs
again_row answers moved row = record { from = row.from; refs = map (judged_again answers moved) row.refs }

-- what was kept of a work before these works moved
unfoldable pub again_work : Answers → List (List ℕ) → WorkRefs → WorkRefs
again_work answers moved kept = record { act_day = kept.act_day; rows = map (again_row answers moved) kept.rows }
