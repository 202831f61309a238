-- What is right of an index, and which references dangle where it is.
use Rattle.std.specs.Prelude.{◌≡◌, ℕ, nat_le, false, List, [], ◌∷◌, ◌++◌, map, if◌then◌else◌}
use Rattle.std.specs.Option.{option_map_or}
use Rattle.std.specs.Str.{bytes_eq}
use Rattle.frbr_names.specs.Expressions.{Expression}
use Rattle.law_refs.specs.Index.{Kept, all_again, kept_of}
use Rattle.law_refs.specs.Judging.{Answers, cause_of}
use Rattle.law_refs.specs.Listed.{listed}
use Rattle.law_refs.specs.Names.{is_among}
use Rattle.law_refs.specs.Rows.{day_row, refs_on}
use Rattle.law_refs.specs.declared.dangling.DanglingRef.{DanglingRef}
use Rattle.law_refs.specs.declared.node_ref.JudgedRef.{JudgedRef}
use Rattle.law_refs.specs.declared.ref_row.DayRefs.{DayRefs}
use Rattle.law_refs.specs.declared.ref_row.RefRow.{RefRow}
use Rattle.law_refs.specs.declared.ref_row.WorkRefs.{WorkRefs}

-- a reference with what breaks its target, whatever was kept of it
unfoldable pub anew_ref : Answers → JudgedRef → JudgedRef
anew_ref answers kept = record { eid = kept.eid; iri = kept.iri; cause = cause_of answers kept.iri }

-- a row, all of whose references are judged anew
unfoldable pub anew_row : Answers → DayRefs → DayRefs
anew_row answers row = record { from = row.from; refs = map (anew_ref answers) row.refs }

-- what is kept of a work, all judged anew
unfoldable pub anew_work : Answers → WorkRefs → WorkRefs
anew_work answers kept = record { act_day = kept.act_day; rows = map (anew_row answers) kept.rows }

-- an index, all of whose references are judged anew
abbrev pub anew : Answers → Kept → Kept
anew answers index = map (λ of_work. (of_work.0, anew_work answers of_work.1)) index

-- an index is right: to judge all of its references anew changes none
abbrev pub IsRight : Answers → Kept → Type 0
IsRight answers index = anew answers index ≡ index

-- an index is right but for what refers to works that moved: once that is judged again, all of it is right
abbrev pub IsRightBut : Answers → List (List ℕ) → Kept → Type 0
IsRightBut answers moved index = all_again answers moved index ≡ anew answers index

-- all targets are answered as before, but for those of works that moved
abbrev pub AnswerAsBefore : Answers → Answers → List (List ℕ) → Type 0
AnswerAsBefore before after moved = (target : Expression) → is_among target.work.text moved ≡ false → after target ≡ before target

-- those of a work's references whose target breaks a rule, in order
abbrev pub broken_refs : Answers → List ℕ → List JudgedRef → List DanglingRef
broken_refs answers work [] = []
broken_refs answers work (kept ∷ refs) = listed work kept (cause_of answers kept.iri) ++ broken_refs answers work refs

-- the references that dangle on a day: of each work whose act's day has come, those on that day whose target breaks a rule
abbrev pub broken_on : Answers → ℕ → Kept → List DanglingRef
broken_on answers day [] = []
broken_on answers day (of_work ∷ index) =
    (if nat_le of_work.1.act_day day then broken_refs answers of_work.0 (refs_on day of_work.1.rows) else []) ++ broken_on answers day index

-- the rows that are kept of a work
abbrev pub rows_of : List ℕ → Kept → List DayRefs
rows_of work index = option_map_or (λ kept. kept.rows) (kept_of work index) []

-- the rows that are handed in for a work, judged
abbrev pub rows_for : Answers → List ℕ → List RefRow → List DayRefs
rows_for answers work [] = []
rows_for answers work (row ∷ rows) = (if bytes_eq row.work work then day_row answers row ∷ [] else []) ++ rows_for answers work rows
