-- Words that are not one, two or three are no job of those that are told by how many they are.
use Rattle.std.proofs.Common.{◌≡◌, ◌≢◌, ℕ, List, [], ◌∷◌, None, length, map, refl}
use Rattle.lawdesk.specs.Jobs.{plain_job}

pub no_plain_job : {A : Type 0} (f : A → List ℕ) (xs : List A) → length xs ≢ 1 → length xs ≢ 2 → length xs ≢ 3
    → None ≡ plain_job (map f xs)
no_plain_job f [] one two three = refl
no_plain_job f (a ∷ []) one two three = absurd (one refl)
no_plain_job f (a ∷ b ∷ []) one two three = absurd (two refl)
no_plain_job f (a ∷ b ∷ c ∷ []) one two three = absurd (three refl)
no_plain_job f (a ∷ b ∷ c ∷ d ∷ more) one two three = refl
