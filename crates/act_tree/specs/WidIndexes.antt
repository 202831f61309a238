-- What a clause sees of an index of wIds.
use Rattle.std.specs.Prelude.{ℕ, Bool, List}

-- the wId of each number in order, and whether the index is own: whether it can be written to
pub record WidIndexValue : Type 0 where
  pub wids : List (List ℕ)
  pub is_own : Bool
