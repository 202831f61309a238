-- Which words are for which register, and what their status is then.
use Rattle.std.proofs.Common.{◌≡◌, ◌≢◌, ◌↔◌, ◌⊎◌, inl, inr, ℕ, Bool, true, false, List, [], ◌∷◌, length, map, Option, Some, None, codes, refl, ap, arith, subst, sym, ◌∙◌, IsTrue, true≢false}
use Rattle.std.specs.Prelude.{unwrap_or}
use Rattle.std.specs.Str.{bytes_eq}
use Rattle.std.proofs.lemmas.Slice.Eq.{bytes_eq-Decides}
use Rattle.lawdesk.specs.Jobs.{job_of}
use Rattle.lawdesk.specs.Moving.{IsMoveStatus, for_other, is_move}
use Rattle.lawdesk.specs.RunningTwo.{behind}

-- more words than one, or none, are no move
pub no_move : {A : Type 0} (f : A → List ℕ) (xs : List A) → length xs ≢ 1 → false ≡ is_move (map f xs)
no_move f [] one = refl
no_move f (a ∷ []) one = absurd (one refl)
no_move f (a ∷ b ∷ more) one = refl

-- `move` is not behind `sql`
pub move_is_own : (words : List (List ℕ)) → is_move words ≡ true → for_other words ≡ None
move_is_own [] is = refl
move_is_own (word ∷ []) is =
    let same : word ≡ codes "move" = (bytes_eq-Decides word (codes "move")).0 is in
    ap (λ (w : List ℕ). for_other (w ∷ [])) same
move_is_own (word ∷ next ∷ words) is = absurd (true≢false (sym is))

pub not_both : (words rest : List (List ℕ)) → for_other words ≡ None → for_other words ≡ Some rest → ⊥
not_both words rest none some = let wrong : None ≡ Some rest = sym none ∙ some in absurd (cc)

-- a move does not end with 2
pub move_is_not_two : (status : ℕ) → IsMoveStatus status → status ≢ 2
move_is_not_two status (inl is) two = omega (arith, is, two)
move_is_not_two status (inr (inl is)) two = omega (arith, is, two)
move_is_not_two status (inr (inr (inl is))) two = omega (arith, is, two)
move_is_not_two status (inr (inr (inr (inl is)))) two = omega (arith, is, two)
move_is_not_two status (inr (inr (inr (inr (inl is))))) two = omega (arith, is, two)
move_is_not_two status (inr (inr (inr (inr (inr is))))) two = omega (arith, is, two)

-- the status is 2 exactly where the words behind are no form and there is no move
pub words_of_move : (words : List (List ℕ)) (status : ℕ) → is_move words ≡ true → IsMoveStatus status
    → (status ≡ 2) ↔ ((is_move words ≡ false) × (job_of (behind words) ≡ None))
words_of_move words status is one =
    (λ two. absurd (move_is_not_two status one two), λ both. absurd (true≢false (sym is ∙ both.0)))

pub words_of_run : (words rest : List (List ℕ)) (status : ℕ) → is_move words ≡ false → behind words ≡ rest → (status ≡ 2) ↔ (job_of rest ≡ None)
    → (status ≡ 2) ↔ ((is_move words ≡ false) × (job_of (behind words) ≡ None))
words_of_run words rest status none is two =
    (λ given. (none, ap job_of is ∙ two.0 given), λ both. two.1 (sym (ap job_of is) ∙ both.1))

pub behind_sql : (words rest : List (List ℕ)) → for_other words ≡ Some rest → behind words ≡ rest
behind_sql words rest is = ap (λ (found : Option (List (List ℕ))). unwrap_or found words) is

pub behind_none : (words : List (List ℕ)) → for_other words ≡ None → behind words ≡ words
behind_none words is = ap (λ (found : Option (List (List ℕ))). unwrap_or found words) is
