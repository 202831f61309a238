-- What an office keeps of works, and what becomes of it once an entry stands behind the others.
use Rattle.std.specs.Prelude.{ℕ, ◌≡◌, ◌≢◌, true, List, [], ◌∷◌, ◌++◌, map, Option, Some, None, IfSome, option_map, if◌then◌else◌}
use Rattle.std.specs.Str.{bytes_eq}
use Rattle.indexmap.specs.IndexMap.{IndexMap, get_by}
use Rattle.law_register.specs.declared.register.entry.Entry.{Entry}
use Rattle.law_register.specs.declared.register.known.Known.{Known}
use Rattle.law_register.specs.Answer.Replay.{VersionValue}
use Rattle.law_register.specs.Provisions.Carrying.{held_now}
use Rattle.law_register.specs.Provisions.Depending.{depends}
use Rattle.law_register.specs.Provisions.Line.{line}
use Rattle.law_register.specs.Register.KnownNext.{known_now}
use Rattle.law_register.specs.Register.LawList.{laws}
use Rattle.version_cache.specs.declared.table.Table.{Table}
use Rattle.version_cache.specs.declared.work_revision.WorkRevision.{WorkRevision}
use Rattle.version_cache.specs.declared.work_tables.WorkTables.{WorkTables}
use Rattle.version_cache.specs.Seen.{table_view, work_revision_view, work_view}
use Rattle.version_cache.specs.Tables.{version_on}
use Rattle.version_cache.specs.Works.{AreRevisionsOf, IsForIf, WorkRevisionValue, WorkValue, renewed}
use Rattle.law_refs.specs.Index.{Kept as IndexValue}
use Rattle.law_refs.specs.OfRegister.{IsIndexOf}
use Rattle.law_office.specs.References.{index_after}
use Rattle.law_office.specs.declared.book.Changes.{Changes}

-- what is kept of each work, if anything is
abbrev pub Kept : Type 0
Kept = List ℕ → Option WorkValue

-- the same by a map
abbrev pub kept_in : {S : Type 0} → IndexMap (List ℕ) WorkTables S → Kept
kept_in tables work = option_map work_view (get_by (bytes_eq work) tables)

-- what is kept of a work is for what is known of it; nothing is kept exactly of a work that is not known
abbrev pub Matches : Option Known → Option WorkValue → Type 0
Matches known None = known ≡ None
Matches known (Some kept) = IsForIf known kept

-- what is kept of each work is for what these entries make known of it
abbrev pub AreTablesOf : List Entry → Kept → Type 0
AreTablesOf entries kept = (work : List ℕ) → Matches (held_now entries work) (kept work)

-- the version that a table gives on a day
abbrev pub table_on : Table → ℕ → VersionValue
table_on table day = version_on (table_view table) day

-- a work that is enacted, with what is to be kept of it
abbrev pub enacted_view : List ℕ × WorkTables → List ℕ × WorkValue
enacted_view new = (new.0, work_view new.1)

-- a work that is revised, with its revision
abbrev pub revised_view : List ℕ × WorkRevision → List ℕ × WorkRevisionValue
revised_view work = (work.0, work_revision_view work.1)

-- what is kept of a work after a revision of this one
abbrev pub with_revision : List ℕ × WorkRevisionValue → List ℕ → Option WorkValue → Option WorkValue
with_revision revised work kept = if bytes_eq revised.0 work then option_map (λ k. renewed k revised.1) kept else kept

-- after these revisions, one after another
abbrev pub with_revisions : List (List ℕ × WorkRevisionValue) → List ℕ → Option WorkValue → Option WorkValue
with_revisions [] work kept = kept
with_revisions (revised ∷ others) work kept = with_revisions others work (with_revision revised work kept)

-- after this work was enacted, if one was
abbrev pub with_enacted : Option (List ℕ × WorkValue) → List ℕ → Option WorkValue → Option WorkValue
with_enacted None work kept = kept
with_enacted (Some new) work kept = if bytes_eq new.0 work then Some new.1 else kept

-- what is kept of each work after changes
abbrev pub applied : Changes → Kept → Kept
applied changes kept work =
    with_enacted (option_map enacted_view changes.enacted) work
    (with_revisions (map revised_view changes.revised.items) work (kept work))

-- a revision, if it is of this work, is of the tables that are kept of it
abbrev pub FitsOne : List ℕ × WorkRevisionValue → List ℕ → Option WorkValue → Type 0
FitsOne revised work kept = bytes_eq revised.0 work ≡ true → IfSome kept (λ k. AreRevisionsOf k revised.1.tables)

-- so is each of these, after those before it
abbrev pub FitAll : List (List ℕ × WorkRevisionValue) → List ℕ → Option WorkValue → Type 0
FitAll [] work kept = Unit {0}
FitAll (revised ∷ others) work kept = FitsOne revised work kept × FitAll others work (with_revision revised work kept)

-- so is each of these, whichever work it is of
abbrev pub Fit : List (List ℕ × WorkRevisionValue) → Kept → Type 0
Fit revised kept = (work : List ℕ) → FitAll revised work (kept work)

-- changes are those that an entry makes behind these entries: the revisions are of what is kept, and what is kept then is for what the
-- entries with it make known, the index of references too
pub record AreChangesOf (entries : List Entry) (entry : Entry) (kept : Kept) (index : IndexValue) (changes : Changes) : Type 0 where
  pub fit : Fit (map revised_view changes.revised.items) kept
  pub right : AreTablesOf (entries ++ entry ∷ []) (applied changes kept)
  pub refs : IsIndexOf (entries ++ entry ∷ []) (index_after changes.refs index)

-- one work more is kept, if it is known, for what is known of it
pub record AddsWork (known : Option Known) (work : List ℕ) (old new : Kept) : Type 0 where
  pub made : Option WorkValue
  pub matches : Matches known made
  pub kept : (w : List ℕ) → new w ≡ with_enacted (option_map (λ m. (work, m)) made) w (old w)

-- what is kept so far is for what these entries make known, and all works on which one depends are kept
pub record AreAhead (entries : List Entry) (work : List ℕ) (kept : Kept) : Type 0 where
  pub right : (name : List ℕ) (one : WorkValue) → kept name ≡ Some one → IsForIf (held_now entries name) one
  pub there : (known : Known) → known_now entries work ≡ Some known → (name : List ℕ)
      → depends (line (laws entries)) known name ≡ true → kept name ≢ None
