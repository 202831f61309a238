-- What is kept of each work, once a value was put at one of them.
use Rattle.std.proofs.Common.{◌≡◌, ◌∙◌, ap, refl, ℕ, Bool, true, false, cond, List, Option, Some, option_map}
use Rattle.std.specs.Str.{bytes_eq}
use Rattle.law_register.proofs.Puts.{bytes_same}

-- a value that was put is seen at its work, and the others as before
pub put_kept : {V W : Type 0} (see : V → W) (old new : List ℕ → Option V) (work : List ℕ) (put : V)
    → ((w : List ℕ) → new w ≡ cond (bytes_eq work w) (Some put) (old w))
    → (w : List ℕ) → option_map see (new w) ≡ cond (bytes_eq work w) (Some (see put)) (option_map see (old w))
put_kept {V} {W} see old new work put is w = ap (option_map see) (is w) ∙ by (bytes_eq work w)
  where
    by : (b : Bool) → option_map see (cond b (Some put) (old w)) ≡ cond b (Some (see put)) (option_map see (old w))
    by true = refl
    by false = refl

-- where it is seen as the one that was there, all are seen as before
pub put_same : {V W : Type 0} (see : V → W) (old new : List ℕ → Option V) (work : List ℕ) (was put : V) → Some was ≡ old work → see put ≡ see was
    → ((w : List ℕ) → new w ≡ cond (bytes_eq work w) (Some put) (old w))
    → (w : List ℕ) → option_map see (new w) ≡ option_map see (old w)
put_same {V} {W} see old new work was put there same is w = put_kept see old new work put is w ∙ by (bytes_eq work w) refl
  where
    by : (b : Bool) → bytes_eq work w ≡ b → cond b (Some (see put)) (option_map see (old w)) ≡ option_map see (old w)
    by true here = ap Some same ∙ ap (option_map see) (there ∙ ap old (bytes_same work w here))
    by false other = refl
