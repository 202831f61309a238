-- What the rest of some costs, one on.
use Rattle.std.proofs.Common.{◌≡◌, ◌∙◌, ap, ℕ, ◌+◌, ◌≤◌, List, ◌∷◌, arith}
use Rattle.std.specs.List.{sum_by}
use Rattle.std.proofs.lemmas.List.Sums.{sum_by-cons}

pub spent_on : {A : Type 0} (f : A → ℕ) (x : A) (rest xs : List A) (old new all : ℕ) → xs ≡ x ∷ rest → old + sum_by f xs ≤ all → new ≤ old + f x
    → new + sum_by f rest ≤ all
spent_on f x rest xs old new all cut so_far step =
    let whole : sum_by f xs ≡ f x + sum_by f rest = ap (sum_by f) cut ∙ sum_by-cons f x rest in omega (arith, whole, so_far, step)

pub spent_by : {A : Type 0} (f : A → ℕ) (x : A) (rest xs : List A) (old new all : ℕ) → xs ≡ x ∷ rest → old + sum_by f xs ≤ all → new ≤ old + f x → new ≤ all
spent_by f x rest xs old new all cut so_far step =
    let less : new + sum_by f rest ≤ all = spent_on f x rest xs old new all cut so_far step in omega (arith, less)
