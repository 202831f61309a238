-- The last of the first so many numbers that passes a test.
use Rattle.std.specs.Prelude.{ℕ, zero, suc, Bool, List, [], length, get_or, Option, Some, None, if◌then◌else◌}
use Rattle.std.specs.Str.{bytes_eq}

-- the last of the first so many numbers that passes, if one does
abbrev pub last_passing : (ℕ → Bool) → ℕ → Option ℕ
last_passing passes zero = None
last_passing passes (suc i) = if passes i then Some i else last_passing passes i

-- the wId of a number is this one, where the wIds of all numbers stand in order
abbrev pub is_named : List (List ℕ) → List ℕ → ℕ → Bool
is_named wids wid i = bytes_eq wid (get_or wids i [])

-- the last number of a wId
abbrev pub last_named : List (List ℕ) → List ℕ → Option ℕ
last_named wids wid = last_passing (is_named wids wid) (length wids)
