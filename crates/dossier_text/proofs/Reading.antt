-- How the input grows, read by read.
use Rattle.std.proofs.Common.{◌≡◌, ℕ, List, ◌++◌, Option, Some, None}

-- the bytes are the first of what there was, and what is left now are the others
pub record IsFront (all : List ℕ) (now : Option (List ℕ)) (bytes : List ℕ) : Type 0 where
  pub rest : List ℕ
  pub left : now ≡ Some rest
  pub begins : all ≡ bytes ++ rest

abbrev pub IsFrontOf : Option (List ℕ) → Option (List ℕ) → List ℕ → Type 0
IsFrontOf None now bytes = Unit {0}
IsFrontOf (Some all) now bytes = IsFront all now bytes
