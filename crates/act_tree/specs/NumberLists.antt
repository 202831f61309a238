-- What a clause sees of the numbers below another.
use Rattle.std.specs.Prelude.{ℕ, List}

-- the numbers, in order
pub record NumberList : Type 0 where
  pub items : List ℕ
