-- Two ascending lists of days that have the same days are one.
use Rattle.std.proofs.Common.{◌≡◌, ◌∙◌, sym, ap, refl, subst, ℕ, ◌<◌, ◌==◌, ◌||◌, Bool, true, false, List, [], ◌∷◌, arith}
use Rattle.std.proofs.lemmas.Bool.Decides.{nat_tests}
use Rattle.std.proofs.lemmas.Cmp.{ranked}
use Rattle.std.specs.List.{AllByRecursion}
use Rattle.std.specs.List.Sorted.{IsStrictlySortedBy}
use Rattle.std.specs.Ordering.{nat_cmp}
use Rattle.std.specs.declared.cmp.Ordering.TheVariants.{Less}
use Rattle.law_register.specs.Answer.Breakpoints.{has_day}
use Rattle.law_register.proofs.ApartIds.{none_both}
use Rattle.law_register.proofs.Puts.{number_is, number_same}

-- a day is before each of these
abbrev IsFirst : ℕ → List ℕ → Type 0
IsFirst day days = AllByRecursion (λ e. nat_cmp day e ≡ Less) days

apart : (day other : ℕ) → day < other → (day == other) ≡ false
apart day other h = grind (arith, nat_tests)

none_early : (day : ℕ) (days : List ℕ) → IsFirst day days → has_day day days ≡ false
none_early day [] below = refl
none_early day (d ∷ ds) below = none_both (day == d) (has_day day ds) (apart day d (ranked day d Less (sym below.0))) (none_early day ds below.1)

later : (day other : ℕ) (days : List ℕ) → IsFirst day days → has_day other days ≡ true → day < other
later day other [] below has = absurd (let wrong : false ≡ true = has in cc)
later day other (d ∷ ds) below has = by (other == d) refl (later day other ds below.1) has
  where
    by : (b : Bool) → (other == d) ≡ b → (has_day other ds ≡ true → day < other) → (b || has_day other ds) ≡ true → day < other
    by true is rest has = subst (λ n. day < n) (sym (number_same other d is)) (ranked day d Less (sym below.0))
    by false is rest has = rest has

has_first : (day : ℕ) (days : List ℕ) → has_day day (day ∷ days) ≡ true
has_first day days = ap (λ b. b || has_day day days) (number_is day day refl)

both_later : (x y : ℕ) → x < y → y < x → x ≡ y
both_later x y less more = omega (arith, less, more)

module _ (x : ℕ) (xs : List ℕ) (y : ℕ) (ys : List ℕ) (up : IsFirst x xs) (down : IsFirst y ys) where
  first_same : has_day x (y ∷ ys) ≡ true → has_day y (x ∷ xs) ≡ true → x ≡ y
  first_same one two = by (x == y) refl one (y == x) refl two
    where
      by : (b : Bool) → (x == y) ≡ b → (b || has_day x ys) ≡ true → (c : Bool) → (y == x) ≡ c → (c || has_day y xs) ≡ true → x ≡ y
      by true is one c it two = number_same x y is
      by false is one true it two = sym (number_same y x it)
      by false is one false it two = both_later x y (later x y xs up two) (later y x ys down one)

  rest_same : x ≡ y → (day : ℕ) → has_day day (x ∷ xs) ≡ has_day day (y ∷ ys) → has_day day xs ≡ has_day day ys
  rest_same first day same = by (day == x) refl
    where
      by : (b : Bool) → (day == x) ≡ b → has_day day xs ≡ has_day day ys
      by true is =
          none_early day xs (subst (λ n. IsFirst n xs) (sym (number_same day x is)) up)
          ∙ sym (none_early day ys (subst (λ n. IsFirst n ys) (sym (number_same day x is ∙ first)) down))
      by false is =
          sym (ap (λ b. b || has_day day xs) is)
          ∙ same
          ∙ ap (λ b. b || has_day day ys) (ap (λ n. day == n) (sym first) ∙ is)

pub one_list : (xs ys : List ℕ) → IsStrictlySortedBy nat_cmp xs → IsStrictlySortedBy nat_cmp ys
    → ((day : ℕ) → has_day day xs ≡ has_day day ys) → xs ≡ ys
unfolding IsStrictlySortedBy
one_list [] [] up down same = refl
one_list [] (y ∷ ys) up down same = absurd (let wrong : false ≡ true = same y ∙ has_first y ys in cc)
one_list (x ∷ xs) [] up down same = absurd (let wrong : true ≡ false = sym (has_first x xs) ∙ same x in cc)
one_list (x ∷ xs) (y ∷ ys) up down same =
    let first : x ≡ y =
    first_same x xs y ys up.0 down.0 (sym (same x) ∙ has_first x xs) (same y ∙ has_first y ys) in
    ap (λ d. d ∷ xs) first
    ∙ ap (λ (ds : List ℕ). y ∷ ds) (one_list xs ys up.1 down.1 (λ day. rest_same x xs y ys up.0 down.0 first day (same day)))
