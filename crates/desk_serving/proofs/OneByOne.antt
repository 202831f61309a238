-- A list of four that is taken apart into lists of one.
use Rattle.std.proofs.Common.{◌≡◌, refl, sym, ap, ◌∙◌, ℕ, List, [], ◌∷◌, ◌++◌, length, get_or, slice_set, arith}

module _ {A : Type 0} where
  one_set : (p : List A) (x : A) → length p ≡ 1 → slice_set p 0 x ≡ x ∷ []
  one_set [] x one = absurd (omega (arith, one))
  one_set (y ∷ []) x one = refl
  one_set (y ∷ z ∷ ys) x one = absurd (omega (arith, one))

  pub four_set : (p q r s : List A) (x y z w : A) → length p ≡ 1 → length q ≡ 1 → length r ≡ 1 → length s ≡ 1
      → (slice_set p 0 x ++ slice_set q 0 y) ++ (slice_set r 0 z ++ slice_set s 0 w) ≡ x ∷ y ∷ z ∷ w ∷ []
  four_set p q r s x y z w a b c d =
      ap (λ (l : List A). (l ++ slice_set q 0 y) ++ (slice_set r 0 z ++ slice_set s 0 w)) (one_set p x a)
      ∙ (ap (λ (l : List A). ((x ∷ []) ++ l) ++ (slice_set r 0 z ++ slice_set s 0 w)) (one_set q y b)
      ∙ (ap (λ (l : List A). (x ∷ y ∷ []) ++ (l ++ slice_set s 0 w)) (one_set r z c)
      ∙ ap (λ (l : List A). (x ∷ y ∷ []) ++ ((z ∷ []) ++ l)) (one_set s w d)))

  pub four_are : (all front back p q r s : List A) (x y z w : A) → all ≡ front ++ back → front ≡ p ++ q → back ≡ r ++ s
      → p ≡ x ∷ [] → q ≡ y ∷ [] → r ≡ z ∷ [] → s ≡ w ∷ [] → all ≡ x ∷ y ∷ z ∷ w ∷ []
  four_are all front back p q r s x y z w whole first second a b c d =
      whole ∙ (ap (λ (l : List A). l ++ back) first ∙ (ap (λ (l : List A). (p ++ q) ++ l) second
      ∙ (ap (λ (l : List A). (l ++ q) ++ (r ++ s)) a
      ∙ (ap (λ (l : List A). ((x ∷ []) ++ l) ++ (r ++ s)) b
      ∙ (ap (λ (l : List A). (x ∷ y ∷ []) ++ (l ++ s)) c
      ∙ ap (λ (l : List A). (x ∷ y ∷ []) ++ ((z ∷ []) ++ l)) d)))))

  pub one_get : (p : List A) (x : A) → length p ≡ 1 → p ≡ get_or p 0 x ∷ []
  one_get [] x one = absurd (omega (arith, one))
  one_get (y ∷ []) x one = refl
  one_get (y ∷ z ∷ ys) x one = absurd (omega (arith, one))
