-- Where a head ends does not change with the bytes behind it.
use Rattle.std.proofs.Common.{◌≡◌, ℕ, zero, suc, ◌+◌, ◌≤◌, min, Bool, true, false, cond, List, [], ◌∷◌, ◌++◌, length, take, Option, None, Some, Ok, refl, sym, ap, ◌∙◌, arith, length-append, length-take}
use Rattle.std.specs.Prelude.{◌==◌, codes, nat_lt, option_map}
use Rattle.std.specs.List.{starts_with}
use Rattle.std.specs.Cmp.Lexicographic.{pointwise, as_long}
use Rattle.std.proofs.lemmas.List.{take-append-le}
use Rattle.std.proofs.lemmas.Bool.{le-ltb}
use Rattle.law_http.specs.Cutting.{head_end, head_length, or_refusal}
use Rattle.law_http.specs.declared.cutting.TheConstants.{MAX_HEAD}

pub take_min : (m : ℕ) (xs : List ℕ) → take (min (length xs) m) xs ≡ take m xs
take_min zero xs = let none : min (length xs) 0 ≡ 0 = omega arith in ap (λ n. take n xs) none
take_min (suc m) [] = let none : min (length {A = ℕ} []) (suc m) ≡ 0 = omega arith in ap (λ n. take n []) none
take_min (suc m) (x ∷ xs) =
    let count : min (length (x ∷ xs)) (suc m) ≡ suc (min (length xs) m) = omega arith in
    ap (λ n. take n (x ∷ xs)) count ∙ ap (λ l. x ∷ l) (take_min m xs)

abbrev ends_here : List ℕ → Bool
ends_here xs = starts_with ◌==◌ xs (codes "\r\n\r\n")

four : (xs : List ℕ) → ends_here xs ≡ true → 4 ≤ length xs
four xs e = omega (arith, as_long ◌==◌ (codes "\r\n\r\n") (take 4 xs) e, length-take 4 xs)

-- what four bytes say does not change with those behind them
same_four : (xs ys : List ℕ) → 4 ≤ length xs → ends_here (xs ++ ys) ≡ ends_here xs
same_four xs ys long = ap (λ l. pointwise ◌==◌ (codes "\r\n\r\n") l) (take-append-le 4 xs ys long)

-- an end that is found behind the first byte
module _ (xs : List ℕ) (n : ℕ) where
  found_later : (o : Option ℕ) → head_end xs ≡ o → option_map (λ k. k + 1) o ≡ Some n → (k : ℕ) × (head_end xs ≡ Some k) × (Some (k + 1) ≡ Some n)
  found_later None is e = absurd (cc e)
  found_later (Some k) is e = (k, is, e)

-- an end lies within the bytes
pub end_within : (xs : List ℕ) (n : ℕ) → head_end xs ≡ Some n → 4 ≤ length xs
end_within [] n e = absurd (cc e)
end_within (a ∷ xs) n e = by_test (ends_here (a ∷ xs)) refl e (end_within xs)
  where
    by_test : (t : Bool) → ends_here (a ∷ xs) ≡ t → cond t (Some 4) (option_map (λ k. k + 1) (head_end xs)) ≡ Some n
        → ((k : ℕ) → head_end xs ≡ Some k → 4 ≤ length xs) → 4 ≤ length (a ∷ xs)
    by_test true starts e later = four (a ∷ xs) starts
    by_test false starts e later = let (k, is, _) = found_later xs n (head_end xs) refl e in omega (arith, later k is)

abbrev end_at : List ℕ → Bool → Option ℕ
end_at xs t = cond t (Some 4) (option_map (λ k. k + 1) (head_end xs))

pub end_append : (xs ys : List ℕ) (n : ℕ) → head_end xs ≡ Some n → head_end (xs ++ ys) ≡ Some n
end_append [] ys n e = absurd (cc e)
end_append (a ∷ xs) ys n e = by_test (ends_here (a ∷ xs)) refl e (end_append xs ys)
  where
    by_test : (t : Bool) → ends_here (a ∷ xs) ≡ t → end_at xs t ≡ Some n
        → ((k : ℕ) → head_end xs ≡ Some k → head_end (xs ++ ys) ≡ Some k) → end_at (xs ++ ys) (ends_here (a ∷ xs ++ ys)) ≡ Some n
    by_test true starts e later = ap (end_at (xs ++ ys)) (same_four (a ∷ xs) ys (four (a ∷ xs) starts) ∙ starts) ∙ e
    by_test false starts e later =
        let (k, is, same) = found_later xs n (head_end xs) refl e in
        ap (end_at (xs ++ ys)) (same_four (a ∷ xs) ys (omega (arith, end_within xs k is)) ∙ starts)
        ∙ ap (option_map (λ k. k + 1)) (later k is) ∙ same

take_grows : (m : ℕ) (xs ys : List ℕ) → (more : List ℕ) × (take m (xs ++ ys) ≡ take m xs ++ more)
take_grows zero xs ys = ([], refl)
take_grows (suc m) [] ys = (take (suc m) ys, refl)
take_grows (suc m) (x ∷ xs) ys = let (more, e) = take_grows m xs ys in (more, ap (λ l. x ∷ l) e)

found_end : (o : Option ℕ) (short : Bool) (n : ℕ) → or_refusal o short ≡ Ok n → o ≡ Some n
found_end (Some k) short n e = cc e
found_end None true n e = absurd (cc e)
found_end None false n e = absurd (cc e)

-- a head that is there stays as it is
pub head_append : (xs ys : List ℕ) (n : ℕ) → head_length xs ≡ Ok n → head_length (xs ++ ys) ≡ Ok n
head_append xs ys n e =
    let (more, whole) = take_grows MAX_HEAD xs ys in
    let found = found_end (head_end (take MAX_HEAD xs)) (nat_lt (length xs) MAX_HEAD) n e in
    ap (λ o. or_refusal o (nat_lt (length (xs ++ ys)) MAX_HEAD)) (ap head_end whole ∙ end_append (take MAX_HEAD xs) more n found)

-- so many bytes say of the head what the whole stream says
pub head_full : (xs ys : List ℕ) → MAX_HEAD ≤ length xs → head_length (xs ++ ys) ≡ head_length xs
head_full xs ys full =
    ap (λ l. or_refusal (head_end l) (nat_lt (length (xs ++ ys)) MAX_HEAD)) (take-append-le MAX_HEAD xs ys full)
    ∙ ap (or_refusal (head_end (take MAX_HEAD xs))) (le-ltb (length (xs ++ ys)) MAX_HEAD (omega (arith, length-append xs ys)) ∙ sym (le-ltb (length xs) MAX_HEAD full))

pub head_long : (xs : List ℕ) (n : ℕ) → head_length xs ≡ Ok n → 2 ≤ length xs
head_long xs n e =
    omega (arith, end_within (take MAX_HEAD xs) n (found_end (head_end (take MAX_HEAD xs)) (nat_lt (length xs) MAX_HEAD) n e), length-take MAX_HEAD xs)
