-- Which references dangle on a day, of all works.
use Rattle.std.specs.Prelude.{ℕ, ◌≡◌, ◌==◌, List, [], ◌∷◌, map, if◌then◌else◌, codes}
use Rattle.law_register.specs.declared.register.entry.Entry.{Entry}
use Rattle.law_refs.specs.Missing.{IsDangling}
use Rattle.law_refs.specs.declared.dangling.DanglingRef.{DanglingRef}
use Rattle.law_reports.specs.Tables.{table_text}

-- the names of the columns
abbrev pub dangling_names : List (List ℕ)
dangling_names = codes "work" ∷ codes "eId" ∷ codes "ref" ∷ codes "cause" ∷ []

-- the name of a cause by its number: that of the rule by which the question for what the reference names is refused
abbrev pub cause_named : ℕ → List ℕ
cause_named number =
    if number == 1 then codes "UnknownWork"
    else (if number == 2 then codes "ViewpointAhead"
    else (if number == 3 then codes "NotYetEnacted"
    else (if number == 4 then codes "OtherLanguage" else codes "UnknownPortion")))

-- the row of a reference that dangles, as it was recorded
abbrev pub dangling_row : DanglingRef → List (List ℕ)
dangling_row one = one.work ∷ one.eid ∷ one.iri ∷ cause_named one.cause ∷ []

-- the table of references that dangle
unfoldable pub dangling_table : List DanglingRef → List ℕ
dangling_table found = table_text dangling_names (map dangling_row found)

-- the table of the references of a register that dangle on a day
pub record IsDanglingTable (entries : List Entry) (day : ℕ) (bytes : List ℕ) : Type 0 where
  pub found : List DanglingRef
  pub all : IsDangling entries day found
  pub is : bytes ≡ dangling_table found
