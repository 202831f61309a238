-- Which references dangle on a day.
use Rattle.std.specs.Prelude.{ℕ, nat_le, List, [], ◌∷◌, ◌++◌, Option, Some, None, if◌then◌else◌}
use Rattle.law_refs.specs.Index.{Kept}
use Rattle.law_refs.specs.Rows.{refs_on}
use Rattle.law_refs.specs.declared.dangling.DanglingRef.{DanglingRef}
use Rattle.law_refs.specs.declared.node_ref.JudgedRef.{JudgedRef}
use Rattle.law_refs.specs.declared.ref_row.WorkRefs.{WorkRefs}

-- a reference as it is listed, if it dangles
abbrev pub listed : List ℕ → JudgedRef → Option ℕ → List DanglingRef
listed work kept None = []
listed work kept (Some cause) = record { work = work; eid = kept.eid; iri = kept.iri; cause = cause } ∷ []

-- those of a work's references that dangle, in order
abbrev pub all_listed : List ℕ → List JudgedRef → List DanglingRef
all_listed work [] = []
all_listed work (kept ∷ refs) = listed work kept kept.cause ++ all_listed work refs

-- those of a work that dangle on a day: none before the day of its act
unfoldable pub listed_of : ℕ → List ℕ → WorkRefs → List DanglingRef
listed_of day work kept = if nat_le kept.act_day day then all_listed work (refs_on day kept.rows) else []

-- the references that dangle on a day, works in the order of the index
abbrev pub dangling_on : ℕ → Kept → List DanglingRef
dangling_on day [] = []
dangling_on day (of_work ∷ index) = listed_of day of_work.0 of_work.1 ++ dangling_on day index
