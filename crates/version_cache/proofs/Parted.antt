-- An ascending list is parted by a day: what comes before it stands in front.
use Rattle.std.proofs.Common.{◌≡◌, ◌∙◌, sym, ap, refl, ℕ, ◌<◌, Bool, true, false, cond, not, ◌&&◌, nat_le, nat_lt, List, [], ◌∷◌, length, map, take, drop, arith}
use Rattle.std.proofs.lemmas.Bool.Decides.{nat_tests}
use Rattle.std.proofs.lemmas.Cmp.{ranked}
use Rattle.std.specs.List.{AllByRecursion, filter, list_all}
use Rattle.std.specs.List.Sorted.{IsStrictlySortedBy}
use Rattle.std.specs.Ordering.{nat_cmp}
use Rattle.std.specs.declared.cmp.Ordering.TheVariants.{Less}
use Rattle.version_cache.specs.Days.{is_ascending}
use Rattle.version_cache.proofs.Fronts.{both_left, both_right}

pub both_true : (a b : Bool) → a ≡ true → b ≡ true → (a && b) ≡ true
both_true true b h k = k
both_true false b h k = absurd (let wrong : false ≡ true = h in cc)

-- days that ascend by std's word ascend
less_all : (d : ℕ) (ds : List ℕ) → AllByRecursion (λ e. nat_cmp d e ≡ Less) ds → list_all (λ e. nat_lt d e) ds ≡ true
less_all d [] h = refl
less_all d (e ∷ es) h =
    both_true (nat_lt d e) (list_all (λ e. nat_lt d e) es) (by d e (ranked d e Less (sym h.0))) (less_all d es h.1)
  where
    by : (a b : ℕ) → a < b → nat_lt a b ≡ true
    by a b h = grind (arith, nat_tests)

pub ascending : (ds : List ℕ) → IsStrictlySortedBy nat_cmp ds → is_ascending ds ≡ true
unfolding IsStrictlySortedBy
ascending [] up = refl
ascending (d ∷ ds) up = both_true (list_all (λ e. nat_lt d e) ds) (is_ascending ds) (less_all d ds up.0) (ascending ds up.1)

pub later_too : (d e t : ℕ) → nat_lt d t ≡ false → nat_lt d e ≡ true → nat_lt e t ≡ false
later_too d e t h k = grind (arith, nat_tests)

pub not_before : (d t : ℕ) (b : Bool) → nat_lt d t ≡ b → nat_le t d ≡ not b
not_before d t true h = grind (arith, nat_tests)
not_before d t false h = grind (arith, nat_tests)

module _ {A : Type 0} (key : A → ℕ) (t : ℕ) where
  abbrev early : List A → List A
  early xs = filter (λ x. nat_lt (key x) t) xs

  abbrev late : List A → List A
  late xs = filter (λ x. nat_le t (key x)) xs

  none_before : (d : ℕ) (xs : List A) → nat_lt d t ≡ false → list_all (λ e. nat_lt d e) (map key xs) ≡ true → filter (λ x. nat_lt (key x) t) xs ≡ []
  none_before d [] late h = refl
  none_before d (x ∷ xs) late h =
      ap (λ b. cond b (x ∷ filter (λ y. nat_lt (key y) t) xs) (filter (λ y. nat_lt (key y) t) xs))
      (later_too d (key x) t late (both_left (nat_lt d (key x)) (list_all (λ e. nat_lt d e) (map key xs)) h))
      ∙ none_before d xs late (both_right (nat_lt d (key x)) (list_all (λ e. nat_lt d e) (map key xs)) h)

  all_from : (d : ℕ) (xs : List A) → nat_lt d t ≡ false → list_all (λ e. nat_lt d e) (map key xs) ≡ true → filter (λ x. nat_le t (key x)) xs ≡ xs
  all_from d [] late h = refl
  all_from d (x ∷ xs) late h =
      ap (λ b. cond b (x ∷ filter (λ y. nat_le t (key y)) xs) (filter (λ y. nat_le t (key y)) xs))
      (not_before (key x) t false (later_too d (key x) t late (both_left (nat_lt d (key x)) (list_all (λ e. nat_lt d e) (map key xs)) h)))
      ∙ ap (λ ys. x ∷ ys) (all_from d xs late (both_right (nat_lt d (key x)) (list_all (λ e. nat_lt d e) (map key xs)) h))

  -- as many as come before the day are those that do
  pub front_is : (xs : List A) → is_ascending (map key xs) ≡ true
      → take (length (filter (λ x. nat_lt (key x) t) xs)) xs ≡ filter (λ x. nat_lt (key x) t) xs
  front_is [] up = refl
  front_is (x ∷ xs) up = by (nat_lt (key x) t) refl (front_is xs (both_right (list_all (λ e. nat_lt (key x) e) (map key xs)) (is_ascending (map key xs)) up))
    where
      by : (b : Bool) → nat_lt (key x) t ≡ b → take (length (early xs)) xs ≡ (early xs) → take (length (cond b (x ∷ (early xs)) (early xs))) (x ∷ xs) ≡ cond b (x ∷ (early xs)) (early xs)
      by true e below = ap (λ ys. x ∷ ys) below
      by false e below =
          let none : (early xs) ≡ [] = none_before (key x) xs e (both_left (list_all (λ e. nat_lt (key x) e) (map key xs)) (is_ascending (map key xs)) up) in
          ap (λ (ys : List A). take (length ys) (x ∷ xs)) none ∙ sym none

  -- and those behind them are the others
  pub back_is : (xs : List A) → is_ascending (map key xs) ≡ true
      → drop (length (filter (λ x. nat_lt (key x) t) xs)) xs ≡ filter (λ x. nat_le t (key x)) xs
  back_is [] up = refl
  back_is (x ∷ xs) up = by (nat_lt (key x) t) refl (back_is xs (both_right (list_all (λ e. nat_lt (key x) e) (map key xs)) (is_ascending (map key xs)) up))
    where
      by : (b : Bool) → nat_lt (key x) t ≡ b → drop (length (early xs)) xs ≡ (late xs)
          → drop (length (cond b (x ∷ (early xs)) (early xs))) (x ∷ xs) ≡ cond (nat_le t (key x)) (x ∷ (late xs)) (late xs)
      by true e below = below ∙ sym (ap (λ b. cond b (x ∷ (late xs)) (late xs)) (not_before (key x) t true e))
      by false e below =
          let all : list_all (λ e. nat_lt (key x) e) (map key xs) ≡ true = both_left (list_all (λ e. nat_lt (key x) e) (map key xs)) (is_ascending (map key xs)) up in
          ap (λ (ys : List A). drop (length ys) (x ∷ xs)) (none_before (key x) xs e all)
          ∙ sym (ap (λ b. cond b (x ∷ (late xs)) (late xs)) (not_before (key x) t false e) ∙ ap (λ ys. x ∷ ys) (all_from (key x) xs e all))

  -- where the first of them does not come before the day, none does
  pub none_early : (x : A) (xs : List A) → is_ascending (map key (x ∷ xs)) ≡ true → nat_lt (key x) t ≡ false → filter (λ y. nat_lt (key y) t) (x ∷ xs) ≡ []
  none_early x xs up e =
      ap (λ b. cond b (x ∷ (early xs)) (early xs)) e
      ∙ none_before (key x) xs e (both_left (list_all (λ e. nat_lt (key x) e) (map key xs)) (is_ascending (map key xs)) up)

  pub all_late : (x : A) (xs : List A) → is_ascending (map key (x ∷ xs)) ≡ true → nat_lt (key x) t ≡ false → filter (λ y. nat_le t (key y)) (x ∷ xs) ≡ x ∷ xs
  all_late x xs up e =
      ap (λ b. cond b (x ∷ (late xs)) (late xs)) (not_before (key x) t false e)
      ∙ ap (λ ys. x ∷ ys) (all_from (key x) xs e (both_left (list_all (λ e. nat_lt (key x) e) (map key xs)) (is_ascending (map key xs)) up))
