-- What could not be applied on a day, of all works.
use Rattle.std.specs.Prelude.{ℕ, ◌≡◌, nat_lt, List, [], ◌∷◌, ◌++◌, Option, Some, None, map, if◌then◌else◌, codes, IsPermutation, IsSorted}
use Rattle.std.specs.Cmp.Lexicographic.{slice_cmp}
use Rattle.std.specs.Ordering.{nat_cmp}
use Rattle.desk_base.specs.Ids.{id_text}
use Rattle.desk_base.specs.declared.id.Id.{Id}
use Rattle.act_tree.specs.Causes.{cause_name}
use Rattle.act_tree.specs.declared.cause.Cause.{Cause}
use Rattle.law_register.specs.declared.register.entry.Entry.{Entry}
use Rattle.law_register.specs.declared.register.known.Known.{Known}
use Rattle.law_register.specs.declared.answer.question.Reading.TheVariants.{Force}
use Rattle.law_register.specs.Answer.Replay.{replay_on}
use Rattle.law_register.specs.Provisions.Carrying.{held_now}
use Rattle.law_register.specs.Register.LawList.{laws, works_enacted}
use Rattle.law_reports.specs.Tables.{table_text}

-- the names of the columns
abbrev pub unapplied_names : List (List ℕ)
unapplied_names = codes "work" ∷ codes "id" ∷ codes "cause" ∷ []

-- the row of a modification of a work that could not be applied
abbrev pub unapplied_row : List ℕ → Id × Cause → List (List ℕ)
unapplied_row work one = work ∷ id_text one.0 ∷ cause_name one.1 ∷ []

-- the rows of a work on a day: none where its act was not yet enacted then, or else what of the text in force could not be applied
abbrev pub rows_on : ℕ → List ℕ → Known → List (List (List ℕ))
rows_on day work known =
    if nat_lt day known.act.day then []
    else map (unapplied_row work) (replay_on known Force day).unapplied

-- the same, where the work is known
abbrev pub rows_by : ℕ → List ℕ → Option Known → List (List (List ℕ))
rows_by day work None = []
rows_by day work (Some known) = rows_on day work known

-- the same, as all entries make it known, with what it carries
abbrev pub rows_of : List Entry → ℕ → List ℕ → List (List (List ℕ))
rows_of entries day work = rows_by day work (held_now entries work)

-- the rows of works, one work after another
abbrev pub rows_of_all : List Entry → ℕ → List (List ℕ) → List (List (List ℕ))
rows_of_all entries day [] = []
rows_of_all entries day (work ∷ works) = rows_of entries day work ++ rows_of_all entries day works

-- the table of what could not be applied on a day: of the works that law entries enact, in the order of the bytes of their IRIs
pub record IsUnapplied (entries : List Entry) (day : ℕ) (bytes : List ℕ) : Type 0 where
  pub works : List (List ℕ)
  pub all : IsPermutation (works_enacted (laws entries)) works
  pub in_order : IsSorted (slice_cmp nat_cmp) works
  pub is : bytes ≡ table_text unapplied_names (rows_of_all entries day works)
