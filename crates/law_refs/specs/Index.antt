-- The index of references: for each work the rows that are kept of it, works in the order of their IRIs.
use Rattle.std.specs.Prelude.{ℕ, ◌+◌, List, [], ◌∷◌, ◌++◌, map, length, Option, Some, None, if◌then◌else◌}
use Rattle.std.specs.BTreeMap.{insert_entry, is_at}
use Rattle.std.specs.Cmp.Lexicographic.{slice_cmp}
use Rattle.std.specs.Map.{lookup}
use Rattle.std.specs.Ordering.{nat_cmp}
use Rattle.std.specs.Str.{bytes_eq}
use Rattle.law_refs.specs.Counting.{moved_refs}
use Rattle.law_refs.specs.Judging.{Answers}
use Rattle.law_refs.specs.Rows.{again_work, day_row, rows_before}
use Rattle.law_refs.specs.declared.ref_row.DayRefs.{DayRefs}
use Rattle.law_refs.specs.declared.ref_row.RefRow.{RefRow}
use Rattle.law_refs.specs.declared.ref_row.WorkRefs.{WorkRefs}

-- what an index is seen as
abbrev pub Kept : Type 0
Kept = List (List ℕ × WorkRefs)

-- what is kept of a work, if anything is
abbrev pub kept_of : List ℕ → Kept → Option WorkRefs
kept_of work index = lookup (is_at (slice_cmp nat_cmp work)) index

-- the day of the first row that is handed in for a work, if one is
abbrev pub first_day : List ℕ → List RefRow → Option (Option ℕ)
first_day work [] = None
first_day work (row ∷ rows) = if bytes_eq row.work work then Some row.from else first_day work rows

-- the rows of a work that stay: those before the first that is handed in, or all
abbrev pub rows_that_stay : Option (Option ℕ) → List DayRefs → List DayRefs
rows_that_stay None rows = rows
rows_that_stay (Some day) rows = rows_before day rows

-- what stays of a work
unfoldable pub staying : List RefRow → List ℕ → WorkRefs → WorkRefs
staying rows work kept = record { act_day = kept.act_day; rows = rows_that_stay (first_day work rows) kept.rows }

-- what stays of an index
abbrev pub all_staying : List RefRow → Kept → Kept
all_staying rows index = map (λ of_work. (of_work.0, staying rows of_work.0 of_work.1)) index

-- an index that was kept before these works moved
abbrev pub all_again : Answers → List (List ℕ) → Kept → Kept
all_again answers moved index = map (λ of_work. (of_work.0, again_work answers moved of_work.1)) index

-- what is kept of a work once a row is added behind the others
abbrev pub with_row_behind : ℕ → DayRefs → Option WorkRefs → WorkRefs
with_row_behind act_day row None = record { act_day = act_day; rows = row ∷ [] }
with_row_behind act_day row (Some kept) = record { act_day = act_day; rows = kept.rows ++ row ∷ [] }

-- an index once a row is put into it
unfoldable pub put : Answers → Kept → RefRow → Kept
put answers index row = insert_entry (slice_cmp nat_cmp) index row.work (with_row_behind row.act_day (day_row answers row) (kept_of row.work index))

-- an index once rows are put into it, one after another
abbrev pub put_all : Answers → Kept → List RefRow → Kept
put_all answers index [] = index
put_all answers index (row ∷ rows) = put_all answers (put answers index row) rows

-- an index once these works moved and these rows are handed in: what is handed in of a work takes the place of all that is kept of it
-- from the first of these days on, and of what stays those references are judged again whose target is of a work that moved
unfoldable pub revised : Answers → List (List ℕ) → List RefRow → Kept → Kept
revised answers moved rows index = put_all answers (all_again answers moved (all_staying rows index)) rows

-- how many references these rows have
abbrev pub refs_in : List RefRow → ℕ
refs_in [] = 0
refs_in (row ∷ rows) = length row.refs + refs_in rows

-- how many references in these rows have a target of one of these works
abbrev pub moved_in_rows : List (List ℕ) → List DayRefs → ℕ
moved_in_rows moved [] = 0
moved_in_rows moved (row ∷ rows) = moved_refs moved row.refs + moved_in_rows moved rows

-- how many references of an index have a target of one of these works
abbrev pub moved_in : List (List ℕ) → Kept → ℕ
moved_in moved [] = 0
moved_in moved (of_work ∷ index) = moved_in_rows moved of_work.1.rows + moved_in moved index

-- how many steps a revision takes at most: one for each reference that is handed in, and one for each that stays and whose target is of a
-- work that moved
abbrev pub revision_steps : List (List ℕ) → List RefRow → Kept → ℕ
revision_steps moved rows index = refs_in rows + moved_in moved (all_staying rows index)
