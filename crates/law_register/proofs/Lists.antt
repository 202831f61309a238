-- What holds of lists by their last element, and of their first elements.
use Rattle.std.proofs.Common.{◌≡◌, sym, ap, subst, ℕ, zero, suc, ◌≤◌, ◌<◌, ◌⊎◌, inl, inr, List, [], ◌∷◌, ◌++◌, length, take, slice_get, Some, None, refl, append_assoc, arith}
use Rattle.std.proofs.lemmas.List.{append-nil, length-append, take-append-le}

-- what holds of no elements, and of one element more, holds of all lists
module _ {X : Type 0} (P : List X → Type 0) (more : (xs : List X) (x : X) → P xs → P (xs ++ x ∷ [])) where
  behind : (before xs : List X) → P before → P (before ++ xs)
  behind before [] p = subst P (sym (append-nil before)) p
  behind before (x ∷ xs) p = subst P (append_assoc before (x ∷ []) xs) (behind (before ++ x ∷ []) xs (more before x p))

  pub by_last : P [] → (xs : List X) → P xs
  by_last p xs = behind [] xs p

-- of two numbers one is at most the other
pub at_most_or : (m n : ℕ) → (m ≤ n) ⊎ (n < m)
at_most_or zero n = inl (omega arith)
at_most_or (suc m) zero = inr (omega arith)
at_most_or (suc m) (suc n) = by (at_most_or m n)
  where
    by : (m ≤ n) ⊎ (n < m) → (suc m ≤ suc n) ⊎ (suc n < suc m)
    by (inl h) = inl (omega (arith, h))
    by (inr h) = inr (omega (arith, h))

-- the first elements
pub take_all : {X : Type 0} (xs : List X) (n : ℕ) → length xs ≤ n → take n xs ≡ xs
take_all [] zero h = refl
take_all [] (suc n) h = refl
take_all (x ∷ xs) zero h = absurd (omega arith)
take_all (x ∷ xs) (suc n) h = ap (λ ys. x ∷ ys) (take_all xs n (omega arith))

pub take_last : {X : Type 0} (xs : List X) (x : X) (n : ℕ) → length xs < n → take n (xs ++ x ∷ []) ≡ xs ++ x ∷ []
take_last xs x n h = take_all (xs ++ x ∷ []) n (omega (arith, h, length-append xs (x ∷ [])))

pub take_front : {X : Type 0} (xs : List X) (x : X) (n : ℕ) → n ≤ length xs → take n (xs ++ x ∷ []) ≡ take n xs
take_front xs x n h = take-append-le n xs (x ∷ []) h

pub take_twice : {X : Type 0} (xs : List X) (m n : ℕ) → m ≤ n → take m (take n xs) ≡ take m xs
take_twice [] zero zero h = refl
take_twice [] zero (suc n) h = refl
take_twice [] (suc m) zero h = refl
take_twice [] (suc m) (suc n) h = refl
take_twice (x ∷ xs) zero zero h = refl
take_twice (x ∷ xs) zero (suc n) h = refl
take_twice (x ∷ xs) (suc m) zero h = absurd (omega arith)
take_twice (x ∷ xs) (suc m) (suc n) h = ap (λ ys. x ∷ ys) (take_twice xs m n (omega (arith, h)))

pub take_few : {X : Type 0} (n : ℕ) (xs : List X) → length (take n xs) ≤ n
take_few zero [] = omega arith
take_few zero (x ∷ xs) = omega arith
take_few (suc n) [] = omega arith
take_few (suc n) (x ∷ xs) = omega (arith, take_few n xs)

pub take_less : {X : Type 0} (n : ℕ) (xs : List X) → length (take n xs) ≤ length xs
take_less zero [] = omega arith
take_less zero (x ∷ xs) = omega arith
take_less (suc n) [] = omega arith
take_less (suc n) (x ∷ xs) = omega (arith, take_less n xs)

pub one_more_taken : {X : Type 0} (xs : List X) (i : ℕ) (x : X) → slice_get xs i ≡ Some x → take (suc i) xs ≡ take i xs ++ x ∷ []
one_more_taken [] i x at = absurd (let no : None ≡ Some x = at in cc)
one_more_taken (y ∷ xs) zero x at = ap (λ z. z ∷ []) (let same : y ≡ x = cc in same)
one_more_taken (y ∷ xs) (suc i) x at = ap (λ ys. y ∷ ys) (one_more_taken xs i x at)

pub there_is : {X : Type 0} (xs : List X) (i : ℕ) → i < length xs → slice_get xs i ≡ None → ⊥
there_is [] i h at = omega arith
there_is (x ∷ xs) zero h at = let no : Some x ≡ None = at in cc
there_is (x ∷ xs) (suc i) h at = there_is xs i (omega (arith, h)) at

pub take_none : {X : Type 0} (xs : List X) → take 0 xs ≡ []
take_none [] = refl
take_none (x ∷ xs) = refl
