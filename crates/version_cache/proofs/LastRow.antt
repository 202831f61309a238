-- The last of some rows.
use Rattle.std.proofs.Common.{suc, ◌≡◌, ap, refl, subst, ℕ, ◌-◌, List, [], ◌∷◌, ◌++◌, length, Option, Some, None, option_map, arith}
use Rattle.std.specs.Prelude.{slice_get}
use Rattle.law_register.specs.Answer.Replay.{VersionValue}
use Rattle.version_cache.specs.declared.row.Row.{Row}
use Rattle.version_cache.specs.Rows.{kept_view, rows_view}
use Rattle.version_cache.specs.Tables.{RowValue, last_version}

taken_back : (n : ℕ) → suc (suc n) - 1 ≡ suc (suc n - 1)
taken_back n = omega arith

abbrev version_in : VersionValue → Option VersionValue → VersionValue
version_in before None = before
version_in before (Some version) = version

pub last_of : (before : VersionValue) (rows : List Row) (row : Row) → slice_get rows (length rows - 1) ≡ Some row
    → last_version before (rows_view rows) ≡ kept_view row.kept
last_of before [] row h = absurd (let wrong : None ≡ Some row = h in cc)
last_of before (x ∷ []) row h = ap (λ (o : Option VersionValue). version_in before o) (ap (option_map (λ (r : Row). kept_view r.kept)) h)
last_of before (x ∷ y ∷ ys) row h =
    last_of (kept_view x.kept) (y ∷ ys) row
    (let n = length ys in subst (λ (k : ℕ). slice_get (x ∷ y ∷ ys) k ≡ Some row) (taken_back n) h)

-- the version of rows with one behind them
pub last_added : (before : VersionValue) (rows : List RowValue) (row : RowValue) → last_version before (rows ++ row ∷ []) ≡ row.version
last_added before [] row = refl
last_added before (x ∷ xs) row = last_added x.version xs row
