-- What is left of bytes once the empty lines in front are passed over.
use Rattle.std.proofs.Common.{◌≡◌, ℕ, suc, ◌-◌, ◌≤◌, Bool, true, false, cond, ◌&&◌, List, [], ◌∷◌, ◌++◌, length, drop, refl, ap, ◌∙◌, arith}
use Rattle.std.specs.Prelude.{◌==◌}
use Rattle.law_http.specs.Cutting.{after_empty_lines}

pub after_short : (xs : List ℕ) → length (after_empty_lines xs) ≤ length xs
after_short [] = omega arith
after_short (a ∷ []) = omega arith
after_short (a ∷ b ∷ xs) = by_test ((a == 13) && (b == 10)) (after_short xs)
  where
    by_test : (t : Bool) → length (after_empty_lines xs) ≤ length xs → length (cond t (after_empty_lines xs) (a ∷ b ∷ xs)) ≤ length (a ∷ b ∷ xs)
    by_test true short = omega (arith, short)
    by_test false short = omega arith

pub after_drop : (xs : List ℕ) → drop (length xs - length (after_empty_lines xs)) xs ≡ after_empty_lines xs
after_drop [] = refl
after_drop (a ∷ []) = refl
after_drop (a ∷ b ∷ xs) = by_test ((a == 13) && (b == 10)) (after_drop xs)
  where
    by_test : (t : Bool) → drop (length xs - length (after_empty_lines xs)) xs ≡ after_empty_lines xs
        → drop (length (a ∷ b ∷ xs) - length (cond t (after_empty_lines xs) (a ∷ b ∷ xs))) (a ∷ b ∷ xs) ≡ cond t (after_empty_lines xs) (a ∷ b ∷ xs)
    by_test true later =
        let count : length (a ∷ b ∷ xs) - length (after_empty_lines xs) ≡ suc (suc (length xs - length (after_empty_lines xs))) = omega (arith, after_short xs) in
        ap (λ n. drop n (a ∷ b ∷ xs)) count ∙ later
    by_test false later =
        let count : length (a ∷ b ∷ xs) - length (a ∷ b ∷ xs) ≡ 0 = omega arith in
        ap (λ n. drop n (a ∷ b ∷ xs)) count

pub after_after : (xs : List ℕ) → after_empty_lines (after_empty_lines xs) ≡ after_empty_lines xs
after_after [] = refl
after_after (a ∷ []) = refl
after_after (a ∷ b ∷ xs) = by_test ((a == 13) && (b == 10)) refl (after_after xs)
  where
    by_test : (t : Bool) → ((a == 13) && (b == 10)) ≡ t → after_empty_lines (after_empty_lines xs) ≡ after_empty_lines xs
        → after_empty_lines (cond t (after_empty_lines xs) (a ∷ b ∷ xs)) ≡ cond t (after_empty_lines xs) (a ∷ b ∷ xs)
    by_test true e later = later
    by_test false e later = ap (λ t. cond t (after_empty_lines xs) (a ∷ b ∷ xs)) e

pub after_append : (xs ys : List ℕ) → after_empty_lines (after_empty_lines xs ++ ys) ≡ after_empty_lines (xs ++ ys)
after_append [] ys = refl
after_append (a ∷ []) ys = refl
after_append (a ∷ b ∷ xs) ys = by_test ((a == 13) && (b == 10)) refl (after_append xs ys)
  where
    by_test : (t : Bool) → ((a == 13) && (b == 10)) ≡ t → after_empty_lines (after_empty_lines xs ++ ys) ≡ after_empty_lines (xs ++ ys)
        → after_empty_lines (cond t (after_empty_lines xs) (a ∷ b ∷ xs) ++ ys) ≡ cond t (after_empty_lines (xs ++ ys)) (a ∷ b ∷ xs ++ ys)
    by_test true e later = later
    by_test false e later = ap (λ t. cond t (after_empty_lines (xs ++ ys)) (a ∷ b ∷ xs ++ ys)) e

-- two bytes that begin no empty line, and what follows them
pub begins_on : (xs ys : List ℕ) → after_empty_lines xs ≡ xs → 2 ≤ length xs → after_empty_lines (xs ++ ys) ≡ xs ++ ys
begins_on [] ys e two = absurd (omega (arith, two))
begins_on (a ∷ []) ys e two = absurd (omega (arith, two))
begins_on (a ∷ b ∷ xs) ys e two = by_test ((a == 13) && (b == 10)) e
  where
    by_test : (t : Bool) → cond t (after_empty_lines xs) (a ∷ b ∷ xs) ≡ a ∷ b ∷ xs → cond t (after_empty_lines (xs ++ ys)) (a ∷ b ∷ xs ++ ys) ≡ a ∷ b ∷ xs ++ ys
    by_test true is = absurd (omega (arith, ap length is, after_short xs))
    by_test false is = refl
