-- A table revised is right: its rows before the touched day stay, and behind them stands a row for each breakpoint from that day on.
use Rattle.std.proofs.Common.{zero, suc, ◌≡◌, ◌∙◌, sym, ap, refl, ℕ, ◌<◌, Bool, true, false, cond, nat_le, nat_lt, List, [], ◌∷◌, ◌++◌, Option, Some, None, arith}
use Rattle.std.proofs.lemmas.Bool.Decides.{nat_tests}
use Rattle.std.proofs.lemmas.List.{append-nil}
use Rattle.std.proofs.lemmas.List.Elements.{filter-append}
use Rattle.std.specs.Option.{option_or}
use Rattle.law_register.specs.declared.answer.question.Reading.{Reading}
use Rattle.law_register.specs.declared.register.known.Known.{Known}
use Rattle.law_register.specs.Answer.Breakpoints.{breakpoints}
use Rattle.law_register.specs.Answer.Replay.{VersionValue, as_enacted, replay_on}
use Rattle.law_register.proofs.NamedDays.{breakpoints_ascend}
use Rattle.version_cache.specs.Days.{days_before, last_day, last_until}
use Rattle.version_cache.specs.Steady.{CarrySteadily}
use Rattle.version_cache.specs.Tables.{IsRight, IsRightBefore, RevisionValue, RowValue, TableValue, committed, last_version, revision_of, rows_before, rows_on, rows_until}
use Rattle.version_cache.proofs.LateDays.{days_from, last_by_next, last_joined, none_before_zero}
use Rattle.version_cache.proofs.Parted.{ascending}
use Rattle.version_cache.proofs.Right.{last_by, replay_by_last, version_or}
use Rattle.version_cache.proofs.RowFronts.{by_next}

pub last_joined_rows : (before : VersionValue) (xs ys : List RowValue) → last_version before (xs ++ ys) ≡ last_version (last_version before xs) ys
last_joined_rows before [] ys = refl
last_joined_rows before (x ∷ xs) ys = last_joined_rows x.version xs ys

none_yet : (rows : List RowValue) → rows_before 0 rows ≡ []
none_yet [] = refl
none_yet (row ∷ rows) = ap (λ b. cond b (row ∷ rows_before 0 rows) (rows_before 0 rows)) (never row.day) ∙ none_yet rows
  where
    never : (d : ℕ) → nat_lt d 0 ≡ false
    never d = grind (arith, nat_tests)

module _ (touched day : ℕ) where
  -- rows before the touched day, by a later one
  early_stay : nat_le touched day ≡ true → (rows : List RowValue) → rows_until day (rows_before touched rows) ≡ rows_before touched rows
  early_stay h [] = refl
  early_stay h (row ∷ rows) = by (nat_lt row.day touched) refl (early_stay h rows)
    where
      by_then : (d : ℕ) → nat_le touched day ≡ true → nat_lt d touched ≡ true → nat_le d day ≡ true
      by_then d h k = grind (arith, nat_tests)

      by : (b : Bool) → nat_lt row.day touched ≡ b → rows_until day (rows_before touched rows) ≡ rows_before touched rows
          → rows_until day (cond b (row ∷ rows_before touched rows) (rows_before touched rows)) ≡ cond b (row ∷ rows_before touched rows) (rows_before touched rows)
      by true e below =
          ap (λ b. cond b (row ∷ rows_until day (rows_before touched rows)) (rows_until day (rows_before touched rows))) (by_then row.day h e)
          ∙ ap (λ rest. row ∷ rest) below
      by false e below = below

  -- by an earlier day they are all that have come
  early_all : nat_le touched day ≡ false → (rows : List RowValue) → rows_until day (rows_before touched rows) ≡ rows_until day rows
  early_all h [] = refl
  early_all h (row ∷ rows) = by (nat_lt row.day touched) refl (early_all h rows)
    where
      not_yet : (d : ℕ) → nat_le touched day ≡ false → nat_lt d touched ≡ false → nat_le d day ≡ false
      not_yet d h k = grind (arith, nat_tests)

      by : (b : Bool) → nat_lt row.day touched ≡ b → rows_until day (rows_before touched rows) ≡ rows_until day rows
          → rows_until day (cond b (row ∷ rows_before touched rows) (rows_before touched rows)) ≡ cond (nat_le row.day day) (row ∷ rows_until day rows) (rows_until day rows)
      by true e below = ap (λ rest. cond (nat_le row.day day) (row ∷ rest) rest) below
      by false e below =
          below
          ∙ sym (ap (λ b. cond b (row ∷ rows_until day rows) (rows_until day rows)) (not_yet row.day h e))

  late_none : nat_le touched day ≡ false → (known : Known) (r : Reading) (ds : List ℕ) → rows_until day (rows_on known r (days_from touched ds)) ≡ []
  late_none h known r [] = refl
  late_none h known r (d ∷ ds) = by (nat_le touched d) refl (late_none h known r ds)
    where
      not_yet : (d : ℕ) → nat_le touched day ≡ false → nat_le touched d ≡ true → nat_le d day ≡ false
      not_yet d h k = grind (arith, nat_tests)

      by : (b : Bool) → nat_le touched d ≡ b → rows_until day (rows_on known r (days_from touched ds)) ≡ [] → rows_until day (rows_on known r (cond b (d ∷ days_from touched ds) (days_from touched ds))) ≡ []
      by true e below =
          ap (λ b. cond b ((let row : RowValue = record { day = d; version = replay_on known r d } in row) ∷ rows_until day (rows_on known r (days_from touched ds))) (rows_until day (rows_on known r (days_from touched ds)))) (not_yet d h e)
          ∙ below
      by false e below = below

module _ (known : Known) (table : TableValue) where
  joined : (before : VersionValue) (first later : Option ℕ)
      → version_or known table.reading (version_or known table.reading before first) later ≡ version_or known table.reading before (option_or later first)
  joined before first None = refl
  joined before first (Some day) = refl

  -- the last row before the touched day has the version of the last breakpoint before it
  pub last_kept_is : CarrySteadily known → (touched : ℕ) → IsRightBefore known touched table
      → last_version table.enacted (rows_before touched table.rows) ≡ version_or known table.reading (as_enacted known.act) (last_day (days_before touched (breakpoints known)))
  last_kept_is steady zero right =
      ap (last_version table.enacted) (none_yet table.rows) ∙ right.enacted
      ∙ sym (ap (λ (ds : List ℕ). version_or known table.reading (as_enacted known.act) (last_day ds)) (none_before_zero zero (breakpoints known)))
  last_kept_is steady (suc t) right =
      ap (last_version table.enacted) (by_next t table.rows)
      ∙ right.versions t (omega arith)
      ∙ replay_by_last known table.reading steady t
      ∙ ap (version_or known table.reading (as_enacted known.act)) (last_by_next t (breakpoints known))

  revised_on : CarrySteadily known → (touched : ℕ) → IsRightBefore known touched table → (day : ℕ) (b : Bool) → nat_le touched day ≡ b
      → last_version table.enacted (rows_until day (rows_before touched table.rows ++ rows_on known table.reading (days_from touched (breakpoints known)))) ≡ replay_on known table.reading day
  revised_on steady touched right day b is =
      ap (last_version table.enacted) (filter-append (λ (row : RowValue). nat_le row.day day) (rows_before touched table.rows) (rows_on known table.reading (days_from touched (breakpoints known))))
      ∙ by b is
    where
      early : (d t : ℕ) → nat_le t d ≡ false → d < t
      early d t h = grind (arith, nat_tests)

      by : (b : Bool) → nat_le touched day ≡ b
          → last_version table.enacted (rows_until day (rows_before touched table.rows) ++ rows_until day (rows_on known table.reading (days_from touched (breakpoints known)))) ≡ replay_on known table.reading day
      by true e =
          ap (λ (rows : List RowValue). last_version table.enacted (rows ++ rows_until day (rows_on known table.reading (days_from touched (breakpoints known))))) (early_stay touched day e table.rows)
          ∙ last_joined_rows table.enacted (rows_before touched table.rows) (rows_until day (rows_on known table.reading (days_from touched (breakpoints known))))
          ∙ last_by known table.reading day (last_version table.enacted (rows_before touched table.rows)) (days_from touched (breakpoints known))
          ∙ ap (λ (before : VersionValue). version_or known table.reading before (last_until day (days_from touched (breakpoints known)))) (last_kept_is steady touched right)
          ∙ joined (as_enacted known.act) (last_day (days_before touched (breakpoints known))) (last_until day (days_from touched (breakpoints known)))
          ∙ ap (version_or known table.reading (as_enacted known.act)) (last_joined touched day (breakpoints known) (ascending (breakpoints known) (breakpoints_ascend known)) e)
          ∙ sym (replay_by_last known table.reading steady day)
      by false e =
          ap (λ (rows : List RowValue). last_version table.enacted (rows ++ rows_until day (rows_on known table.reading (days_from touched (breakpoints known))))) (early_all touched day e table.rows)
          ∙ ap (λ (rows : List RowValue). last_version table.enacted (rows_until day table.rows ++ rows)) (late_none touched day e known table.reading (breakpoints known))
          ∙ ap (last_version table.enacted) (append-nil (rows_until day table.rows))
          ∙ right.versions day (early day touched e)

  -- a table with a revision taken is right
  pub revised_right : CarrySteadily known → (touched : ℕ) → IsRightBefore known touched table → IsRight known (committed table (revision_of table known touched))
  revised_right steady touched right = record {
    enacted = right.enacted;
    versions = λ day. revised_on steady touched right day (nat_le touched day) refl;
  }

pub revision_is : (touched kept number : ℕ) (rows news : List RowValue) → kept ≡ number → rows ≡ news
    → (let a : RevisionValue = record { touched = touched; kept = kept; rows = rows } in a) ≡ (let b : RevisionValue = record { touched = touched; kept = number; rows = news } in b)
revision_is touched kept number rows news counted is =
    ap (λ (n : ℕ). let a : RevisionValue = record { touched = touched; kept = n; rows = rows } in a) counted
    ∙ ap (λ (xs : List RowValue). let a : RevisionValue = record { touched = touched; kept = number; rows = xs } in a) is
