-- What a register hands in once an entry stands behind the others, or once it is opened: of each work that changed, the references of its
-- texts from the day on that changed.
use Rattle.std.specs.Prelude.{ℕ, ◌+◌, nat_lt, List, [], ◌∷◌, ◌++◌, map, filter, Option, Some, None}
use Rattle.law_register.specs.declared.law.act.Act.{Act}
use Rattle.law_register.specs.declared.register.entry.Entry.{Entry}
use Rattle.law_register.specs.declared.register.known.Known.{Known}
use Rattle.law_register.specs.Answer.Breakpoints.{breakpoints}
use Rattle.law_register.specs.Answer.Replay.{as_enacted}
use Rattle.law_register.specs.Register.Indexes.{act_of}
use Rattle.law_register.specs.Provisions.Carrying.{held_now}
use Rattle.law_register.specs.Provisions.Touching.{touched_works}
use Rattle.law_register.specs.Register.LawList.{laws, works_enacted}
use Rattle.law_refs.specs.Index.{Kept, refs_in, revision_steps}
use Rattle.law_refs.specs.Missing.{refs_in_force, text_refs}
use Rattle.law_refs.specs.declared.ref_row.RefRow.{RefRow}

-- the references of the text of a work as it is in force from a day on
abbrev pub row_on : List ℕ → Known → ℕ → RefRow
row_on work known day = record { work = work; act_day = known.act.day; from = Some day; refs = refs_in_force known day }

-- those of its act as enacted
abbrev pub row_enacted : List ℕ → Known → RefRow
row_enacted work known = record { work = work; act_day = known.act.day; from = None; refs = text_refs (as_enacted known.act).tree }

-- those of all texts of a work: of its act as enacted, and of each day on which its text may change
abbrev pub rows_made : List ℕ → Known → List RefRow
rows_made work known = row_enacted work known ∷ map (row_on work known) (breakpoints known)

-- those from a day on: of that day, and of each later one on which its text may change
abbrev pub rows_from : List ℕ → ℕ → Known → List RefRow
rows_from work touched known =
    row_on work known touched ∷ map (row_on work known) (filter (λ day. nat_lt touched day) (breakpoints known))

-- where the work is known
abbrev pub rows_if : (Known → List RefRow) → Option Known → List RefRow
rows_if rows None = []
rows_if rows (Some known) = rows known

-- those of works, each from its own day on, by what entries make known of them
abbrev pub rows_touched : List Entry → List (List ℕ × ℕ) → List RefRow
rows_touched entries [] = []
rows_touched entries (touched ∷ others) =
    rows_if (rows_from touched.0 touched.1) (held_now entries touched.0) ++ rows_touched entries others

-- those of an act that is enacted, if one is, by what entries make known of it
abbrev pub rows_enacted : List Entry → Option Act → List RefRow
rows_enacted entries None = []
rows_enacted entries (Some act) = rows_if (rows_made act.work) (held_now entries act.work)

-- what an entry hands in that comes to stand behind others: of the work that it enacts, and of those that it touches
unfoldable pub rows_of_entry : List Entry → Entry → List RefRow
rows_of_entry entries entry =
    rows_enacted (entries ++ entry ∷ []) (act_of entry.command)
    ++ rows_touched (entries ++ entry ∷ []) (touched_works entries entry)

-- the work of an act, if there is one
abbrev pub work_enacted : Option Act → List (List ℕ)
work_enacted None = []
work_enacted (Some act) = act.work ∷ []

-- the works that an entry enacts or touches which comes to stand behind others
unfoldable pub moved_by : List Entry → Entry → List (List ℕ)
moved_by entries entry = work_enacted (act_of entry.command) ++ map (λ touched. touched.0) (touched_works entries entry)

-- how many references are judged for an entry, where this is the index of the entries before it
unfoldable pub judged_for : Kept → List Entry → Entry → ℕ
judged_for index entries entry = revision_steps (moved_by entries entry) (rows_of_entry entries entry) index

-- what is handed in of these works when a register is opened: all texts of each
abbrev pub rows_opened : List Entry → List (List ℕ) → List RefRow
rows_opened entries [] = []
rows_opened entries (work ∷ works) = rows_if (rows_made work) (held_now entries work) ++ rows_opened entries works

-- how many references are judged when a register is opened: those of all texts of the works that are enacted
unfoldable pub judged_at_opening : List Entry → ℕ
judged_at_opening entries = refs_in (rows_opened entries (works_enacted (laws entries)))
