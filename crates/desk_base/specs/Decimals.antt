-- Whole numbers as texts in decimal.
use Rattle.std.specs.Prelude.{ℕ, ◌==◌, Bool, not, ◌&&◌, ◌||◌, nat_le, List, length, get_or, Option, Some, None, if◌then◌else◌}
use Rattle.std.specs.List.{list_all}
use Rattle.std.specs.Char.{is_ascii_digit}
use Rattle.std.specs.Str.Parse.{digits_value}

-- a whole number in decimal: digits alone, at least one, and the first is no zero but in `0` itself
abbrev pub is_decimal : List ℕ → Bool
is_decimal text =
    nat_le 1 (length text) && list_all is_ascii_digit text && (length text == 1 || not (get_or text 0 0 == 48))

-- a number, if it is not beyond a limit
abbrev pub up_to : ℕ → ℕ → Option ℕ
up_to most n = if nat_le n most then Some n else None

-- the number that a text spells in decimal, if it is not beyond a limit
abbrev pub decimal_up_to : ℕ → List ℕ → Option ℕ
decimal_up_to most text = if is_decimal text then up_to most (digits_value 10 text) else None
