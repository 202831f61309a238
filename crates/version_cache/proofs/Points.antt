-- Where rows ascend, those by a day are in front of the others: the point between them tells how many they are.
use Rattle.std.proofs.Common.{zero, suc, ◌≡◌, ◌∙◌, ◌<◌, ◌≤◌, sym, ap, ℕ, true, false, cond, nat_le, nat_lt, List, [], ◌∷◌, length, slice_index_or, arith}
use Rattle.std.proofs.lemmas.Bool.Decides.{nat_tests}
use Rattle.std.specs.List.{list_all}
use Rattle.version_cache.specs.declared.row.Row.{Row}
use Rattle.version_cache.specs.Days.{is_ascending}
use Rattle.version_cache.specs.Rows.{days_in, row_view, rows_view}
use Rattle.version_cache.specs.Tables.{rows_until}
use Rattle.version_cache.proofs.Fronts.{both_left, both_right}

sooner_by : (x y day : ℕ) → nat_lt x y ≡ true → nat_le y day ≡ true → nat_le x day ≡ true
sooner_by x y day h k = grind (arith, nat_tests)

later_at : (x : ℕ) (rows : List Row) → list_all (λ later. nat_lt x later) (days_in rows) ≡ true → (j : ℕ) (d : Row) → j < length rows
    → nat_lt x (slice_index_or rows j d).day ≡ true
later_at x [] h j d m = absurd (omega (arith, m))
later_at x (row ∷ rows) h zero d m = both_left (nat_lt x row.day) (list_all (λ later. nat_lt x later) (days_in rows)) h
later_at x (row ∷ rows) h (suc j) d m =
    later_at x rows (both_right (nat_lt x row.day) (list_all (λ later. nat_lt x later) (days_in rows)) h) j d (omega (arith, m))

-- a row before one that has come has come
pub rises : (day : ℕ) (rows : List Row) → is_ascending (days_in rows) ≡ true → (i j : ℕ) (d : Row) → i ≤ j → j < length rows
    → nat_le (slice_index_or rows j d).day day ≡ true → nat_le (slice_index_or rows i d).day day ≡ true
rises day [] up i j d l m h = absurd (omega (arith, m))
rises day (row ∷ rows) up zero zero d l m h = h
rises day (row ∷ rows) up zero (suc j) d l m h =
    sooner_by row.day (slice_index_or rows j d).day day
    (later_at row.day rows (both_left (list_all (λ later. nat_lt row.day later) (days_in rows)) (is_ascending (days_in rows)) up) j d (omega (arith, m))) h
rises day (row ∷ rows) up (suc i) zero d l m h = absurd (omega (arith, l))
rises day (row ∷ rows) up (suc i) (suc j) d l m h =
    rises day rows (both_right (list_all (λ later. nat_lt row.day later) (days_in rows)) (is_ascending (days_in rows)) up) i j d (omega (arith, l)) (omega (arith, m)) h

-- as many rows have come as stand before the point
pub point_counts : (day : ℕ) (rows : List Row) (n : ℕ) → n ≤ length rows
    → ((k : ℕ) (e : Row) → 0 ≤ k → k < n → nat_le (slice_index_or rows k e).day day ≡ true)
    → ((k : ℕ) (e : Row) → n ≤ k → k < length rows → nat_le (slice_index_or rows k e).day day ≡ false)
    → n ≡ length (rows_until day (rows_view rows))
point_counts day [] n most come other = omega (arith, most)
point_counts day (row ∷ rows) zero most come other =
    point_counts day rows zero (omega arith) (λ k e l m. absurd (omega (arith, m)))
    (λ k e l m. other (suc k) e (omega arith) (omega (arith, m)))
    ∙ sym (ap (λ b. length (cond b (row_view row ∷ rows_until day (rows_view rows)) (rows_until day (rows_view rows)))) (other 0 row (omega arith) (omega arith)))
point_counts day (row ∷ rows) (suc n) most come other =
    ap suc
    (point_counts day rows n (omega (arith, most)) (λ k e l m. come (suc k) e (omega arith) (omega (arith, m)))
    (λ k e l m. other (suc k) e (omega (arith, l)) (omega (arith, m))))
    ∙ sym (ap (λ b. length (cond b (row_view row ∷ rows_until day (rows_view rows)) (rows_until day (rows_view rows)))) (come 0 row (omega arith) (omega arith)))
