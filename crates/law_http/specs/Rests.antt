-- The bytes that a rest holds.
use Rattle.std.specs.Prelude.{ℕ, List, [], Option, None, Some}

abbrev pub held : Option (List ℕ) → List ℕ
held None = []
held (Some bytes) = bytes
