-- How what is read of a source stands to what it had left.
use Rattle.std.proofs.Common.{◌≡◌, ◌≤◌, ◌+◌, ◌⊎◌, inl, inr, ◌∙◌, refl, sym, ap, subst, arith, le_refl, ℕ, List, [], ◌++◌, append_assoc, length, take, drop, Option, Some, None}
use Rattle.std.specs.Io.KnownBytes.{Consumes}
use Rattle.std.proofs.lemmas.List.{append-nil, take_all, take_at, drop_all, drop_at}
use Rattle.std.proofs.lemmas.Slice.{take-put_mid_below}
use borrow.Rule.Slice.PartMut.{post_of, put_mid}
use lib.Seq.{length-take-le, take-add, take-append-le}

-- the bytes are the first of what there was, and what is left now are the others
pub record IsFront (all : List ℕ) (now : Option (List ℕ)) (bytes : List ℕ) : Type 0 where
  pub rest : List ℕ
  pub left : now ≡ Some rest
  pub begins : all ≡ bytes ++ rest

abbrev pub IsFrontOf : Option (List ℕ) → Option (List ℕ) → List ℕ → Type 0
IsFrontOf None now bytes = Unit {0}
IsFrontOf (Some all) now bytes = IsFront all now bytes

-- a piece that was read, all of what there was or as long as was wanted, is what is cut off at that length
pub cut_take : (n : ℕ) (all bytes rest : List ℕ) → all ≡ bytes ++ rest → length bytes ≤ n → (rest ≡ []) ⊎ (n ≤ length bytes) → take n all ≡ bytes
cut_take n all bytes rest begins most (inl none) =
    ap (take n) (begins ∙ ap (λ l. bytes ++ l) none ∙ append-nil bytes) ∙ take_all n bytes most
cut_take n all bytes rest begins most (inr enough) = ap (take n) begins ∙ take_at bytes rest n (omega (arith, most, enough))

pub cut_drop : (n : ℕ) (all bytes rest : List ℕ) → all ≡ bytes ++ rest → length bytes ≤ n → (rest ≡ []) ⊎ (n ≤ length bytes) → drop n all ≡ rest
cut_drop n all bytes rest begins most (inl none) =
    ap (drop n) (begins ∙ ap (λ l. bytes ++ l) none ∙ append-nil bytes) ∙ drop_all n bytes most ∙ sym none
cut_drop n all bytes rest begins most (inr enough) = ap (drop n) begins ∙ drop_at bytes rest n (omega (arith, most, enough))

-- what is put behind a front of a buffer makes it longer
pub put_more : (f n k : ℕ) (xs ys : List ℕ) → f ≤ length xs → n ≤ length ys → take (f + n) (put_mid f k xs ys) ≡ take f xs ++ take n ys
put_more f n k xs ys low fits =
    let all = put_mid f k xs ys in
    take-add f n all
    ∙ ap (λ (l : List ℕ). l ++ take n (drop f all)) (take-put_mid_below f k xs ys f (le_refl f) low)
    ∙ ap (λ (l : List ℕ). take f xs ++ take n l) (drop_at (take f xs) (ys ++ post_of f k xs) f (length-take-le f xs low))
    ∙ ap (λ (l : List ℕ). take f xs ++ l) (take-append-le n ys (post_of f k xs) fits)

-- a piece that is taken behind a front is a longer front with it
pub more_front : (left mid new : Option (List ℕ)) (before piece : List ℕ) → IsFrontOf left mid before → Consumes mid new piece → IsFrontOf left new (before ++ piece)
more_front None mid new before piece front took = tt
more_front (Some all) mid new before piece front took = by new (subst (λ (m : Option (List ℕ)). Consumes m new piece) front.left took)
  where
    by : (new : Option (List ℕ)) → Consumes (Some front.rest) new piece → IsFront all new (before ++ piece)
    by None took = absurd took
    by (Some rest) took = record {
      rest = rest;
      left = refl;
      begins = front.begins ∙ ap (λ (l : List ℕ). before ++ l) took ∙ sym (append_assoc before piece rest);
    }
