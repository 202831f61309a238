-- What stands between `__` in a text.
use Rattle.std.specs.Prelude.{ℕ, ◌+◌, ◌==◌, ◌&&◌, List, [], ◌∷◌, Option, Some, None, if◌then◌else◌, length}
use Rattle.std.specs.List.{onto_first}

-- what stands between `__`, which are found from the left: a text without one is its only part
abbrev pub parts_of : List ℕ → List (List ℕ)
parts_of [] = [] ∷ []
parts_of (b ∷ []) = (b ∷ []) ∷ []
parts_of (b ∷ c ∷ text) = if b == 95 && c == 95 then [] ∷ parts_of text else onto_first b (parts_of (c ∷ text))

-- the parts of what stands behind a `__`, and none where nothing does
abbrev pub parts_left : Option (List ℕ) → List (List ℕ)
parts_left None = []
parts_left (Some text) = parts_of text

-- the length of a `__` and of what stands behind it
abbrev pub length_left : Option (List ℕ) → ℕ
length_left None = 0
length_left (Some text) = length text + 2
