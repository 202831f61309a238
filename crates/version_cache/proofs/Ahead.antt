-- What a table gives on a day once a revision is committed, before it is.
use Rattle.std.proofs.Common.{◌≡◌, ◌∙◌, sym, ap, refl, ℕ, ◌≤◌, Bool, true, false, cond, nat_le, nat_lt, List, [], ◌∷◌, ◌++◌, length, map, take, suc, arith}
use Rattle.std.proofs.lemmas.List.Elements.{filter-append}
use Rattle.law_register.specs.Answer.Replay.{VersionValue}
use Rattle.version_cache.specs.declared.row.Row.{Row}
use Rattle.version_cache.specs.Days.{is_ascending}
use Rattle.version_cache.specs.Rows.{days_in, row_view, rows_view}
use Rattle.version_cache.specs.Tables.{RowValue, last_version, rows_before, rows_until}
use Rattle.version_cache.proofs.Revised.{last_joined_rows}
use Rattle.version_cache.proofs.RowDays.{days_seen}
use Rattle.version_cache.proofs.RowFronts.{fewer_ascend, seen_ascend, stay_is}

-- the rows before a day are no more than all
pub no_more : (touched : ℕ) (rows : List Row) → length (rows_before touched (rows_view rows)) ≤ length rows
no_more touched [] = omega arith
no_more touched (row ∷ rows) = by (nat_lt row.day touched) (no_more touched rows)
  where
    by : (b : Bool) → length (rows_before touched (rows_view rows)) ≤ length rows
        → length (cond b (row_view row ∷ rows_before touched (rows_view rows)) (rows_before touched (rows_view rows))) ≤ suc (length rows)
    by true below = omega arith
    by false below = omega arith

-- the rows that stay ascend
pub stay_ascend : (touched count : ℕ) (rows xs front : List Row) → is_ascending (days_in rows) ≡ true → xs ≡ rows → count ≡ length (rows_before touched (rows_view rows))
    → front ≡ take count xs → is_ascending (days_in front) ≡ true
stay_ascend touched count rows xs front up is counted cut =
    ap is_ascending (days_seen front ∙ ap (map (λ (row : RowValue). row.day)) (stay_is touched rows rows xs front count up refl is counted cut))
    ∙ fewer_ascend touched (rows_view rows) (seen_ascend rows up)

-- the last by a day of the rows that stay, and then of the new ones
pub last_after : (touched count day : ℕ) (rows xs front new ys : List Row) (enacted between : VersionValue) → is_ascending (days_in rows) ≡ true → xs ≡ rows → ys ≡ new
    → count ≡ length (rows_before touched (rows_view rows)) → front ≡ take count xs → between ≡ last_version enacted (rows_until day (rows_view front))
    → last_version between (rows_until day (rows_view ys)) ≡ last_version enacted (rows_until day (rows_before touched (rows_view rows) ++ rows_view new))
last_after touched count day rows xs front new ys enacted between up is also counted cut by =
    ap (λ (v : VersionValue). last_version v (rows_until day (rows_view ys)))
    (by ∙ ap (λ (rs : List RowValue). last_version enacted (rows_until day rs)) (stay_is touched rows rows xs front count up refl is counted cut))
    ∙ ap (λ (zs : List Row). last_version (last_version enacted (rows_until day (rows_before touched (rows_view rows)))) (rows_until day (rows_view zs))) also
    ∙ sym (last_joined_rows enacted (rows_until day (rows_before touched (rows_view rows))) (rows_until day (rows_view new)))
    ∙ sym (ap (last_version enacted) (filter-append (λ (row : RowValue). nat_le row.day day) (rows_before touched (rows_view rows)) (rows_view new)))
