-- What clocks tell and give.
use Rattle.std.specs.Prelude.{ℕ, ◌≡◌, ◌+◌, ◌-◌, min, List, length, get_or, Option, Some, None}

-- the days that are still to come, once the first of them was given
abbrev pub later_days : (ℕ → ℕ) → ℕ → ℕ
later_days days n = days (n + 1)

-- a clock that tells its days gives the first of those to come
abbrev pub GivesDay : Option (ℕ → ℕ) → Option (ℕ → ℕ) → ℕ → Type 0
GivesDay None now day = Unit {0}
GivesDay (Some days) now day = (day ≡ days 0) × (now ≡ Some (later_days days))

-- the days of a list in their order, and then the last of them again and again
abbrev pub days_from : List ℕ → ℕ → ℕ
days_from days n = get_or days (min n (length days - 1)) 0
