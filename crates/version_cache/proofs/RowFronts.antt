-- As many rows as have come by a day, or before it, are those that have.
use Rattle.std.proofs.Common.{suc, ◌≡◌, ◌∙◌, sym, ap, refl, ℕ, Bool, true, false, cond, nat_le, nat_lt, List, [], ◌∷◌, ◌++◌, length, map, take, arith}
use Rattle.std.proofs.lemmas.Bool.Decides.{nat_tests}
use Rattle.std.proofs.lemmas.List.{map-append, take-map}
use Rattle.std.specs.List.{filter, list_all}
use Rattle.version_cache.specs.declared.row.Row.{Row}
use Rattle.version_cache.specs.Days.{is_ascending}
use Rattle.version_cache.specs.Rows.{days_in, row_view, rows_view}
use Rattle.version_cache.specs.Tables.{RowValue, rows_before, rows_until}
use Rattle.version_cache.proofs.Fronts.{both_left, both_right}
use Rattle.version_cache.proofs.Parted.{both_true, front_is}
use Rattle.version_cache.proofs.RowDays.{days_seen}

pub up_to : (d day : ℕ) → nat_lt d (suc day) ≡ nat_le d day
up_to d day = grind (arith, nat_tests)

pub by_next : (day : ℕ) (rows : List RowValue) → filter (λ row. nat_lt row.day (suc day)) rows ≡ rows_until day rows
by_next day [] = refl
by_next day (row ∷ rows) =
    ap (λ b. cond b (row ∷ filter (λ row. nat_lt row.day (suc day)) rows) (filter (λ row. nat_lt row.day (suc day)) rows)) (up_to row.day day)
    ∙ ap (λ rest. cond (nat_le row.day day) (row ∷ rest) rest) (by_next day rows)

pub seen_ascend : (rows : List Row) → is_ascending (days_in rows) ≡ true → is_ascending (map (λ row. row.day) (rows_view rows)) ≡ true
seen_ascend rows up = sym (ap is_ascending (days_seen rows)) ∙ up

-- before a day
pub before_front : (touched : ℕ) (rows : List Row) → is_ascending (days_in rows) ≡ true
    → rows_view (take (length (rows_before touched (rows_view rows))) rows) ≡ rows_before touched (rows_view rows)
before_front touched rows up =
    sym (take-map row_view (length (rows_before touched (rows_view rows))) rows)
    ∙ front_is (λ row. row.day) touched (rows_view rows) (seen_ascend rows up)

pub stay_is : (touched : ℕ) (items xs ys front : List Row) (count : ℕ) → is_ascending (days_in items) ≡ true → xs ≡ items → ys ≡ items
    → count ≡ length (rows_before touched (rows_view xs)) → front ≡ take count ys → rows_view front ≡ rows_before touched (rows_view items)
stay_is touched items xs ys front count up same also counted cut =
    ap rows_view
    (cut ∙ ap (λ n. take n ys) counted ∙ ap (λ (zs : List Row). take (length (rows_before touched (rows_view zs))) ys) same
    ∙ ap (take (length (rows_before touched (rows_view items)))) also)
    ∙ before_front touched items up

-- by a day
until_front : (day : ℕ) (rows : List Row) → is_ascending (days_in rows) ≡ true
    → rows_view (take (length (rows_until day (rows_view rows))) rows) ≡ rows_until day (rows_view rows)
until_front day rows up =
    sym (take-map row_view (length (rows_until day (rows_view rows))) rows)
    ∙ ap (λ (found : List RowValue). take (length found) (rows_view rows)) (sym (by_next day (rows_view rows)))
    ∙ front_is (λ row. row.day) (suc day) (rows_view rows) (seen_ascend rows up)
    ∙ by_next day (rows_view rows)

pub until_is : (day : ℕ) (items rows front : List Row) (count : ℕ) → is_ascending (days_in items) ≡ true → rows ≡ items → count ≡ length (rows_until day (rows_view rows))
    → front ≡ take count rows → rows_view front ≡ rows_until day (rows_view items)
until_is day items rows front count up is counted cut =
    ap rows_view (cut ∙ ap (λ n. take n rows) counted ∙ ap (λ (xs : List Row). take (length (rows_until day (rows_view xs))) xs) is) ∙ until_front day items up

-- days in front of later ones
joined_ascend : (touched : ℕ) (xs ys : List ℕ) → is_ascending xs ≡ true → list_all (λ d. nat_lt d touched) xs ≡ true → is_ascending ys ≡ true
    → list_all (λ d. nat_le touched d) ys ≡ true → is_ascending (xs ++ ys) ≡ true
joined_ascend touched [] ys up early more late = more
joined_ascend touched (x ∷ xs) ys up early more late =
    both_true (list_all (λ e. nat_lt x e) (xs ++ ys)) (is_ascending (xs ++ ys))
    (all_after xs (both_left (list_all (λ e. nat_lt x e) xs) (is_ascending xs) up) ys late)
    (joined_ascend touched xs ys (both_right (list_all (λ e. nat_lt x e) xs) (is_ascending xs) up) (both_right (nat_lt x touched) (list_all (λ d. nat_lt d touched) xs) early) more late)
  where
    before : nat_lt x touched ≡ true
    before = both_left (nat_lt x touched) (list_all (λ d. nat_lt d touched) xs) early

    between : (x t y : ℕ) → nat_lt x t ≡ true → nat_le t y ≡ true → nat_lt x y ≡ true
    between x t y h k = grind (arith, nat_tests)

    all_late : (ys : List ℕ) → list_all (λ d. nat_le touched d) ys ≡ true → list_all (λ e. nat_lt x e) ys ≡ true
    all_late [] h = refl
    all_late (y ∷ ys) h =
        both_true (nat_lt x y) (list_all (λ e. nat_lt x e) ys) (between x touched y before (both_left (nat_le touched y) (list_all (λ d. nat_le touched d) ys) h))
        (all_late ys (both_right (nat_le touched y) (list_all (λ d. nat_le touched d) ys) h))

    all_after : (xs : List ℕ) → list_all (λ e. nat_lt x e) xs ≡ true → (ys : List ℕ) → list_all (λ d. nat_le touched d) ys ≡ true → list_all (λ e. nat_lt x e) (xs ++ ys) ≡ true
    all_after [] h ys k = all_late ys k
    all_after (z ∷ zs) h ys k =
        both_true (nat_lt x z) (list_all (λ e. nat_lt x e) (zs ++ ys)) (both_left (nat_lt x z) (list_all (λ e. nat_lt x e) zs) h)
        (all_after zs (both_right (nat_lt x z) (list_all (λ e. nat_lt x e) zs) h) ys k)

-- those before a day
early_days : (touched : ℕ) (rows : List RowValue) → list_all (λ d. nat_lt d touched) (map (λ row. row.day) (rows_before touched rows)) ≡ true
early_days touched [] = refl
early_days touched (row ∷ rows) = by (nat_lt row.day touched) refl (early_days touched rows)
  where
    by : (b : Bool) → nat_lt row.day touched ≡ b → list_all (λ d. nat_lt d touched) (map (λ row. row.day) (rows_before touched rows)) ≡ true
        → list_all (λ d. nat_lt d touched) (map (λ (row : RowValue). row.day) (cond b (row ∷ rows_before touched rows) (rows_before touched rows))) ≡ true
    by true e below = both_true (nat_lt row.day touched) (list_all (λ d. nat_lt d touched) (map (λ row. row.day) (rows_before touched rows))) e below
    by false e below = below

fewer_after : (x touched : ℕ) (rows : List RowValue) → list_all (λ e. nat_lt x e) (map (λ row. row.day) rows) ≡ true
    → list_all (λ e. nat_lt x e) (map (λ row. row.day) (rows_before touched rows)) ≡ true
fewer_after x touched [] h = refl
fewer_after x touched (row ∷ rows) h =
    by (nat_lt row.day touched) (fewer_after x touched rows (both_right (nat_lt x row.day) (list_all (λ e. nat_lt x e) (map (λ row. row.day) rows)) h))
  where
    by : (b : Bool) → list_all (λ e. nat_lt x e) (map (λ row. row.day) (rows_before touched rows)) ≡ true
        → list_all (λ e. nat_lt x e) (map (λ (row : RowValue). row.day) (cond b (row ∷ rows_before touched rows) (rows_before touched rows))) ≡ true
    by true below =
        both_true (nat_lt x row.day) (list_all (λ e. nat_lt x e) (map (λ row. row.day) (rows_before touched rows)))
        (both_left (nat_lt x row.day) (list_all (λ e. nat_lt x e) (map (λ row. row.day) rows)) h) below
    by false below = below

pub fewer_ascend : (touched : ℕ) (rows : List RowValue) → is_ascending (map (λ row. row.day) rows) ≡ true → is_ascending (map (λ row. row.day) (rows_before touched rows)) ≡ true
fewer_ascend touched [] up = refl
fewer_ascend touched (row ∷ rows) up =
    by (nat_lt row.day touched) (fewer_ascend touched rows (both_right (list_all (λ e. nat_lt row.day e) (map (λ row. row.day) rows)) (is_ascending (map (λ row. row.day) rows)) up))
  where
    by : (b : Bool) → is_ascending (map (λ row. row.day) (rows_before touched rows)) ≡ true
        → is_ascending (map (λ (row : RowValue). row.day) (cond b (row ∷ rows_before touched rows) (rows_before touched rows))) ≡ true
    by true below =
        both_true (list_all (λ e. nat_lt row.day e) (map (λ row. row.day) (rows_before touched rows))) (is_ascending (map (λ row. row.day) (rows_before touched rows)))
        (fewer_after row.day touched rows (both_left (list_all (λ e. nat_lt row.day e) (map (λ row. row.day) rows)) (is_ascending (map (λ row. row.day) rows)) up)) below
    by false below = below

days_joined : (xs ys : List Row) → days_in (xs ++ ys) ≡ days_in xs ++ days_in ys
days_joined xs ys = map-append (λ (row : Row). row.day) xs ys

-- a table with the rows before a day, and new ones behind them
pub committed_ascend : (touched kept : ℕ) (rows new all : List Row) → is_ascending (days_in rows) ≡ true → is_ascending (days_in new) ≡ true
    → list_all (λ day. nat_le touched day) (days_in new) ≡ true → kept ≡ length (rows_before touched (rows_view rows)) → all ≡ take kept rows ++ new → is_ascending (days_in all) ≡ true
committed_ascend touched kept rows new all up more late counted is =
    ap (λ (xs : List Row). is_ascending (days_in xs)) (is ∙ ap (λ n. take n rows ++ new) counted)
    ∙ ap is_ascending (days_joined (take (length (rows_before touched (rows_view rows))) rows) new ∙ ap (λ days. days ++ days_in new) front)
    ∙ joined_ascend touched (map (λ row. row.day) (rows_before touched (rows_view rows))) (days_in new)
    (fewer_ascend touched (rows_view rows) (seen_ascend rows up)) (early_days touched (rows_view rows)) more late
  where
    front : days_in (take (length (rows_before touched (rows_view rows))) rows) ≡ map (λ row. row.day) (rows_before touched (rows_view rows))
    front = days_seen (take (length (rows_before touched (rows_view rows))) rows) ∙ ap (map (λ (row : RowValue). row.day)) (before_front touched rows up)

pub committed_rows : (touched kept : ℕ) (rows new all : List Row) → is_ascending (days_in rows) ≡ true → kept ≡ length (rows_before touched (rows_view rows)) → all ≡ take kept rows ++ new
    → rows_view all ≡ rows_before touched (rows_view rows) ++ rows_view new
committed_rows touched kept rows new all up counted is =
    ap rows_view (is ∙ ap (λ n. take n rows ++ new) counted)
    ∙ map-append row_view (take (length (rows_before touched (rows_view rows))) rows) new
    ∙ ap (λ front. front ++ rows_view new) (before_front touched rows up)
