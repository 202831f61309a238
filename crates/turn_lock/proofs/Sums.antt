-- Sums over the views of a table, of which one is read by its seat.
use Rattle.std.proofs.Common.{◌≡◌, ◌≢◌, ℕ, zero, suc, ◌+◌, ◌≤◌, List, [], ◌∷◌, set, refl, sym, ap, arith}
use Rattle.std.specs.List.{sum_by}
use Rattle.std.proofs.lemmas.List.Sums.{sum_by-cons}
use mathlib.Core.Option.{some, some-injective, some-ne-none}
use lib.ListN.{get_elem?}

module _ {X : Type 0} (f : X → ℕ) where
  -- the sum after a change of one
  pub sum_set : (xs : List X) (i : ℕ) (x y : X) → get_elem? xs i ≡ some x → sum_by f (set xs i y) + f x ≡ sum_by f xs + f y
  sum_set [] i x y e = absurd (some-ne-none x (sym e))
  sum_set (a ∷ xs) zero x y e =
      let same : f a ≡ f x = ap f (some-injective a x e) in omega (arith, sum_by-cons f a xs, sum_by-cons f y xs)
  sum_set (a ∷ xs) (suc i) x y e =
      omega (arith, sum_set xs i x y e, sum_by-cons f a xs, sum_by-cons f a (set xs i y))

  -- one of them is no more than all
  pub sum_one : (xs : List X) (i : ℕ) (x : X) → get_elem? xs i ≡ some x → f x ≤ sum_by f xs
  sum_one [] i x e = absurd (some-ne-none x (sym e))
  sum_one (a ∷ xs) zero x e = let same : f a ≡ f x = ap f (some-injective a x e) in omega (arith, sum_by-cons f a xs)
  sum_one (a ∷ xs) (suc i) x e = omega (arith, sum_one xs i x e, sum_by-cons f a xs)

  -- nor are two
  pub sum_two : (xs : List X) (i j : ℕ) (x y : X) → j ≢ i → get_elem? xs i ≡ some x → get_elem? xs j ≡ some y → f x + f y ≤ sum_by f xs
  sum_two [] i j x y apart e d = absurd (some-ne-none x (sym e))
  sum_two (a ∷ xs) zero zero x y apart e d = absurd (apart refl)
  sum_two (a ∷ xs) zero (suc j) x y apart e d =
      let same : f a ≡ f x = ap f (some-injective a x e) in omega (arith, sum_one xs j y d, sum_by-cons f a xs)
  sum_two (a ∷ xs) (suc i) zero x y apart e d =
      let same : f a ≡ f y = ap f (some-injective a y d) in omega (arith, sum_one xs i x e, sum_by-cons f a xs)
  sum_two (a ∷ xs) (suc i) (suc j) x y apart e d =
      omega (arith, sum_two xs i j x y (λ same. apart (ap suc same)) e d, sum_by-cons f a xs)

  -- nothing, where each is 0
  pub sum_none : (xs : List X) → ((j : ℕ) (y : X) → get_elem? xs j ≡ some y → f y ≡ 0) → sum_by f xs ≡ 0
  sum_none [] none = refl
  sum_none (a ∷ xs) none =
      let here : f a ≡ 0 = none 0 a refl in
      let rest : sum_by f xs ≡ 0 = sum_none xs (λ j y e. none (suc j) y e) in omega (arith, sum_by-cons f a xs)

  -- all of it, where each other is 0
  pub sum_alone : (xs : List X) (i : ℕ) (x : X) → get_elem? xs i ≡ some x → ((j : ℕ) (y : X) → j ≢ i → get_elem? xs j ≡ some y → f y ≡ 0)
      → sum_by f xs ≡ f x
  sum_alone [] i x e none = absurd (some-ne-none x (sym e))
  sum_alone (a ∷ xs) zero x e none =
      let same : f a ≡ f x = ap f (some-injective a x e) in
      let rest : sum_by f xs ≡ 0 = sum_none xs (λ j y d. none (suc j) y (λ is. omega arith) d) in
      omega (arith, sum_by-cons f a xs)
  sum_alone (a ∷ xs) (suc i) x e none =
      let here : f a ≡ 0 = none 0 a (λ is. omega arith) refl in
      let rest : sum_by f xs ≡ f x = sum_alone xs i x e (λ j y apart d. none (suc j) y (λ is. apart (omega arith)) d) in
      omega (arith, sum_by-cons f a xs)

-- a sum is no more than another, where each is no more
pub sum_less : {X : Type 0} (f g : X → ℕ) (xs : List X) → ((j : ℕ) (y : X) → get_elem? xs j ≡ some y → f y ≤ g y) → sum_by f xs ≤ sum_by g xs
sum_less f g [] each = omega arith
sum_less f g (a ∷ xs) each =
    let here : f a ≤ g a = each 0 a refl in
    let rest : sum_by f xs ≤ sum_by g xs = sum_less f g xs (λ j y e. each (suc j) y e) in
    omega (arith, sum_by-cons f a xs, sum_by-cons g a xs)
