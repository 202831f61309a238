-- Works with days, each work once.
use Rattle.std.specs.Prelude.{◌≡◌, ℕ, List, [], ◌∷◌, None}
use Rattle.law_register.specs.Answer.Touched.{day_among}

abbrev pub AreOnce : List (List ℕ × ℕ) → Type 0
AreOnce [] = Unit {0}
AreOnce (d ∷ ds) = (day_among ds d.0 ≡ None) × AreOnce ds
