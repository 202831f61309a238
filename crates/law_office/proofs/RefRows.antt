-- The rows that are handed in of tables are those that a register hands in.
use Rattle.std.proofs.Common.{◌≡◌, ◌∙◌, sym, ap, ap₂, subst, refl, ℕ, Bool, true, false, cond, List, [], ◌∷◌, ◌++◌, filter, map, nat_le, nat_lt, Option, Some, None, option_map, arith}
use Rattle.std.proofs.lemmas.Bool.Decides.{nat_tests}
use Rattle.std.proofs.lemmas.List.{append_assoc}
use Rattle.law_register.specs.declared.answer.question.Reading.{Reading}
use Rattle.law_register.specs.declared.answer.question.Reading.TheVariants.{Force}
use Rattle.law_register.specs.declared.law.act.Act.{Act}
use Rattle.law_register.specs.declared.register.known.Known.{Known}
use Rattle.law_register.specs.Answer.Breakpoints.{breakpoints}
use Rattle.law_register.specs.Answer.Replay.{replay_on}
use Rattle.act_tree.specs.Trees.{TreeValue}
use Rattle.law_refs.specs.Handing.{row_enacted, row_on, rows_from, rows_made}
use Rattle.law_refs.specs.Missing.{refs_in_force, text_refs}
use Rattle.law_refs.specs.declared.ref_row.RefRow.{RefRow}
use Rattle.version_cache.specs.Tables.{RevisionValue, RowValue, breakpoints_from, rows_on}
use Rattle.version_cache.specs.Works.{IsFor, WorkRevisionValue, WorkValue, renewed, renewed_by, table_in, work_revision_of}
use Rattle.law_office.specs.RefRows.{is_after, row_handed, rows_handed}

-- those of one row of a table, and of the rows behind it
pub handed_more : (work : List ℕ) (day : ℕ) (after : Option ℕ) (row : RowValue) (rows : List RowValue)
    → rows_handed work day after (row ∷ []) ++ rows_handed work day after rows ≡ rows_handed work day after (row ∷ rows)
handed_more work day after row rows = by (is_after after row.day)
  where
    by : (b : Bool) → map (row_handed work day) (cond b (row ∷ []) []) ++ rows_handed work day after rows
        ≡ map (row_handed work day) (cond b (row ∷ filter (λ r. is_after after r.day) rows) (filter (λ r. is_after after r.day) rows))
    by true = refl
    by false = refl

-- a day that is after another is not before it
later_days : (t : ℕ) (days : List ℕ) → filter (λ d. nat_lt t d) (filter (λ d. nat_le t d) days) ≡ filter (λ d. nat_lt t d) days
later_days t [] = refl
later_days t (day ∷ days) = by (nat_le t day) refl (later_days t days)
  where
    by : (b : Bool) → nat_le t day ≡ b → filter (λ d. nat_lt t d) (filter (λ d. nat_le t d) days) ≡ filter (λ d. nat_lt t d) days
        → filter (λ d. nat_lt t d) (cond b (day ∷ filter (λ d. nat_le t d) days) (filter (λ d. nat_le t d) days))
        ≡ cond (nat_lt t day) (day ∷ filter (λ d. nat_lt t d) days) (filter (λ d. nat_lt t d) days)
    by true le rest = ap (λ (ds : List ℕ). cond (nat_lt t day) (day ∷ ds) ds) rest
    by false le rest =
        let lt : nat_lt t day ≡ false = grind (arith, nat_tests, le) in
        rest ∙ sym (ap (λ (b : Bool). cond b (day ∷ filter (λ d. nat_lt t d) days) (filter (λ d. nat_lt t d) days)) lt)

-- a row as it is made
abbrev pub made_row : List ℕ → Known → Option ℕ → TreeValue → RefRow
made_row work known from tree = record { work = work; act_day = known.act.day; from = from; refs = text_refs tree }

pub handed_as : (work : List ℕ) (said known : Known) (from : Option ℕ) (tree text : TreeValue) → tree ≡ text → said.act ≡ known.act
    → made_row work said from tree ≡ made_row work known from text
handed_as work said known from tree text same is =
    ap₂ (λ (a : Act) (t : TreeValue). (let row : RefRow = record { work = work; act_day = a.day; from = from; refs = text_refs t } in row)) is same

pub handed_on_day : (work : List ℕ) (said known : Known) (day : ℕ) (tree : TreeValue) → tree ≡ (replay_on known Force day).tree → said.act ≡ known.act
    → made_row work said (Some day) tree ≡ row_on work known day
unfolding refs_in_force
handed_on_day work said known day tree same is = handed_as work said known (Some day) tree (replay_on known Force day).tree same is

module _ (work : List ℕ) (known : Known) where
  -- all rows of a table that was made
  handed_on : (days : List ℕ) → rows_handed work known.act.day None (rows_on known Force days) ≡ map (row_on work known) days
  unfolding refs_in_force
  handed_on [] = refl
  handed_on (day ∷ days) = ap (λ (rows : List RefRow). row_on work known day ∷ rows) (handed_on days)

  -- those that begin after a day
  handed_after : (touched : ℕ) (days : List ℕ)
      → rows_handed work known.act.day (Some touched) (rows_on known Force days) ≡ map (row_on work known) (filter (λ day. nat_lt touched day) days)
  unfolding refs_in_force
  handed_after touched [] = refl
  handed_after touched (day ∷ days) = by (nat_lt touched day) (handed_after touched days)
    where
      by : (b : Bool)
          → rows_handed work known.act.day (Some touched) (rows_on known Force days) ≡ map (row_on work known) (filter (λ d. nat_lt touched d) days)
          → map (row_handed work known.act.day)
          (cond b (record { day = day; version = replay_on known Force day } ∷ filter (λ r. is_after (Some touched) r.day) (rows_on known Force days))
          (filter (λ r. is_after (Some touched) r.day) (rows_on known Force days)))
          ≡ map (row_on work known) (cond b (day ∷ filter (λ d. nat_lt touched d) days) (filter (λ d. nat_lt touched d) days))
      by true rest = ap (λ (rows : List RefRow). row_on work known day ∷ rows) rest
      by false rest = rest

  -- what is handed in of a work that was made
  pub made_rows : (row : RefRow) (rows : List RowValue) (before own after : List RefRow) → row ≡ row_enacted work known
      → rows ≡ rows_on known Force (breakpoints known) → own ≡ before ++ row ∷ [] → after ≡ own ++ rows_handed work known.act.day None rows
      → after ≡ before ++ rows_made work known
  made_rows row rows before own after is are put then =
      let H : List RowValue → List RefRow = rows_handed work known.act.day None in
      then
      ∙ ap (λ (x : List RefRow). x ++ H rows) (put ∙ ap (λ (r : RefRow). before ++ r ∷ []) is)
      ∙ append_assoc before (row_enacted work known ∷ []) (H rows)
      ∙ ap (λ (rs : List RowValue). before ++ (row_enacted work known ∷ H rs)) are
      ∙ ap (λ (x : List RefRow). before ++ (row_enacted work known ∷ x)) (handed_on (breakpoints known))

  -- what is handed in of a work from the touched day on
  pub revised_rows : (touched : ℕ) (row : RefRow) (rows : List RowValue) (before own after : List RefRow) → row ≡ row_on work known touched
      → rows ≡ rows_on known Force (breakpoints_from known touched) → own ≡ before ++ row ∷ []
      → after ≡ own ++ rows_handed work known.act.day (Some touched) rows → after ≡ before ++ rows_from work touched known
  revised_rows touched row rows before own after is are put then =
      let H : List RowValue → List RefRow = rows_handed work known.act.day (Some touched) in
      then
      ∙ ap (λ (x : List RefRow). x ++ H rows) (put ∙ ap (λ (r : RefRow). before ++ r ∷ []) is)
      ∙ append_assoc before (row_on work known touched ∷ []) (H rows)
      ∙ ap (λ (rs : List RowValue). before ++ (row_on work known touched ∷ H rs)) are
      ∙ ap (λ (x : List RefRow). before ++ (row_on work known touched ∷ x))
      (handed_after touched (breakpoints_from known touched) ∙ ap (map (row_on work known)) (later_days touched (breakpoints known)))

-- the rows of a revision of force
pub revision_rows : (kept : WorkValue) (held : Known) (revision : WorkRevisionValue) (touched : ℕ) (force : RevisionValue) → IsFor held (renewed kept revision)
    → revision ≡ work_revision_of kept held (Some touched) → Some force ≡ option_map (λ both. both.0) revision.tables
    → force.rows ≡ rows_on held Force (breakpoints_from held touched)
revision_rows kept held revision touched force right made is =
    let tables = ap (λ (r : WorkRevisionValue). r.tables) made in
    let same = is ∙ ap (option_map (λ (both : RevisionValue × RevisionValue). both.0)) tables in
    let reading : kept.force.reading ≡ Force =
    subst (λ (t : Option (RevisionValue × RevisionValue)). (table_in Force (renewed_by kept revision.known revision.names revision.days t)).reading ≡ Force) tables (right.tables.readings Force) in
    ap (λ (o : Option RevisionValue). rows_in o) same
    ∙ ap (λ (r : Reading). rows_on held r (breakpoints_from held touched)) reading
  where
    rows_in : Option RevisionValue → List RowValue
    rows_in None = []
    rows_in (Some r) = r.rows

-- a revision from a day on has one of force
pub some_force : (kept : WorkValue) (held : Known) (revision : WorkRevisionValue) (touched : ℕ) → revision ≡ work_revision_of kept held (Some touched)
    → None ≡ option_map (λ both. both.0) revision.tables → ⊥
some_force kept held revision touched made none =
    let no : None ≡ option_map (λ (both : RevisionValue × RevisionValue). both.0) (work_revision_of kept held (Some touched)).tables =
    none ∙ ap (λ (r : WorkRevisionValue). option_map (λ (both : RevisionValue × RevisionValue). both.0) r.tables) made in
    cc
