-- A table goes on from where it stopped.
use Rattle.std.proofs.Common.{suc, ◌≡◌, ◌∙◌, sym, ap, refl, subst, ℕ, ◌≤◌, Bool, true, false, cond, nat_lt, List, [], ◌∷◌, ◌++◌, length, take, Option, Some, None, arith}
use Rattle.act_tree.specs.Seen.{is_own}
use Rattle.law_register.specs.declared.answer.version.Version.{Version}
use Rattle.law_register.specs.Answer.Replay.{VersionValue}
use Rattle.law_register.specs.Answer.Versions.{version_view}
use Rattle.version_cache.specs.declared.row.Row.{Row}
use Rattle.version_cache.specs.Days.{is_ascending}
use Rattle.version_cache.specs.Rows.{days_in, row_view, rows_view}
use Rattle.version_cache.specs.Tables.{RowValue, last_version, rows_before}
use Rattle.version_cache.specs.Working.{IsBehind, IsOfLast, IsWorking}
use Rattle.version_cache.proofs.Ahead.{no_more}
use Rattle.version_cache.proofs.Revised.{last_joined_rows}
use Rattle.version_cache.proofs.RowFronts.{committed_rows}

-- the version behind rows is that of the last of them, if there are any
pub of_last : (before : VersionValue) (rows : List RowValue) (version : VersionValue) → version ≡ last_version before rows → IsOfLast rows version
of_last before [] version is = tt
of_last before (row ∷ rows) version is = is

-- a working version is behind rows, of which there are some
pub some_behind : (rows : List Row) (version : Version) → 1 ≤ length rows → is_own version.tree ≡ true → IsOfLast (rows_view rows) (version_view version)
    → IsBehind (rows_view rows) (Some version)
some_behind [] version some own last = absurd (omega (arith, some))
some_behind (row ∷ rows) version some own last = (own, last)

-- there may be none
pub none_behind : (rows : List RowValue) → IsBehind rows None
none_behind [] = tt
none_behind (row ∷ rows) = tt

-- and that of the last of all rows, where others stand before these
behind_all : (before : VersionValue) (xs ys : List RowValue) (working : Option Version) → IsBehind ys working
    → IsWorking (last_version before (xs ++ ys)) working
behind_all before xs [] None is = tt
behind_all before xs [] (Some version) is = absurd is
behind_all before xs (y ∷ ys) working is = subst (λ (last : VersionValue). IsWorking last working) (sym (last_joined_rows before xs (y ∷ ys))) is

-- a table goes on from the working version of what was committed
pub committed_goes_on : (before : VersionValue) (touched kept : ℕ) (rows new all : List Row) (working : Option Version) → is_ascending (days_in rows) ≡ true
    → kept ≡ length (rows_before touched (rows_view rows)) → all ≡ take kept rows ++ new → IsBehind (rows_view new) working
    → IsWorking (last_version before (rows_view all)) working
committed_goes_on before touched kept rows new all working up counted is behind =
    subst (λ (seen : List RowValue). IsWorking (last_version before seen) working) (sym (committed_rows touched kept rows new all up counted is))
    (behind_all before (rows_before touched (rows_view rows)) (rows_view new) working behind)

-- where no row is left out, all are before the day
pub all_stay : (touched : ℕ) (rows : List Row) → length rows ≤ length (rows_before touched (rows_view rows)) → rows_before touched (rows_view rows) ≡ rows_view rows
all_stay touched [] h = refl
all_stay touched (row ∷ rows) h = by (nat_lt row.day touched) (all_stay touched rows) (no_more touched rows) h
  where
    by : (b : Bool) → (length rows ≤ length (rows_before touched (rows_view rows)) → rows_before touched (rows_view rows) ≡ rows_view rows)
        → length (rows_before touched (rows_view rows)) ≤ length rows
        → suc (length rows) ≤ length (cond b (row_view row ∷ rows_before touched (rows_view rows)) (rows_before touched (rows_view rows)))
        → cond b (row_view row ∷ rows_before touched (rows_view rows)) (rows_before touched (rows_view rows)) ≡ row_view row ∷ rows_view rows
    by true below most h = ap (λ rest. row_view row ∷ rest) (below (omega (arith, h)))
    by false below most h = absurd (omega (arith, h, most))
