-- What an office keeps of references: the index that stands with its entries, and what it is to be once the pending one stands there.
use Rattle.std.specs.Prelude.{◌≡◌, ℕ, nat_lt, List, [], ◌∷◌, length, option_map, Option, Some, None, if◌then◌else◌}
use Rattle.law_register.specs.declared.register.entry.Entry.{Entry}
use Rattle.law_register.specs.declared.register.known.Known.{Known}
use Rattle.law_refs.specs.declared.ref_row.RefRow.{RefRow}
use Rattle.law_refs.specs.Handing.{judged_for, rows_from}
use Rattle.law_refs.specs.Index.{Kept}
use Rattle.version_cache.specs.Works.{AreRevisionsOf, IsFor, WorkRevisionValue, WorkValue, renewed, work_revision_of}

-- an index once a revision of it is committed, if there is one
abbrev pub index_after : Option Kept → Kept → Kept
index_after None index = index
index_after (Some revision) index = revision

-- the index that stands with settled entries: where an entry was pending behind so many others and these are more, that of the one with it
abbrev pub index_with : ℕ → Kept → Option Kept → List Entry → Kept
index_with count index None settled = index
index_with count index (Some later) settled = if nat_lt count (length settled) then later else index

-- how many references are judged for an entry that comes to stand behind settled ones
abbrev pub judging_with : ℕ → Kept → Option Kept → List Entry → Entry → ℕ
judging_with count index later settled entry = judged_for (index_with count index later settled) settled entry

-- the day from which on a revision makes the tables of a work anew, if it makes any
abbrev pub touched_in : WorkRevisionValue → Option ℕ
touched_in revision = option_map (λ both. both.0.touched) revision.tables

-- the revision of a work is that of what is kept of it, by what is known of it with what it carries, from its touched day on
pub record IsMovedAs (kept : Option WorkValue) (known : Option Known) (revision : WorkRevisionValue) : Type 0 where
  pub old : WorkValue
  pub held : Known
  pub is : kept ≡ Some old
  pub knows : known ≡ Some held
  pub fits : AreRevisionsOf old revision.tables
  pub made : revision ≡ work_revision_of old held (touched_in revision)
  pub right : IsFor held (renewed old revision)

-- the work and the rows that are handed in of it: none, where no day is touched
abbrev pub work_from : List ℕ → Option ℕ → List (List ℕ)
work_from work None = []
work_from work (Some day) = work ∷ []

abbrev pub work_moved : List ℕ → WorkRevisionValue → List (List ℕ)
work_moved work revision = work_from work (touched_in revision)

abbrev pub rows_from_if : List ℕ → Known → Option ℕ → List RefRow
rows_from_if work held None = []
rows_from_if work held (Some day) = rows_from work day held

abbrev pub rows_moved : List ℕ → Known → WorkRevisionValue → List RefRow
rows_moved work held revision = rows_from_if work held (touched_in revision)
