-- The names of drafters.
use Rattle.std.specs.Prelude.{ℕ, Bool, ◌&&◌, ◌||◌, ◌==◌, nat_le, nat_lt, List, length, Option, Some, None, if◌then◌else◌}
use Rattle.std.specs.Char.{is_ascii_lowercase, is_ascii_digit}
use Rattle.std.specs.List.{list_all}

-- a byte of a drafter's name: a lower-case letter, a digit, `-`, `.` or `_`
abbrev pub is_drafter_byte : ℕ → Bool
is_drafter_byte b = is_ascii_lowercase b || (is_ascii_digit b || ((b == 45) || ((b == 46) || (b == 95))))

abbrev pub are_drafter_bytes : List ℕ → Bool
are_drafter_bytes text = list_all is_drafter_byte text

-- a drafter's name: 1 to 32 such bytes
abbrev pub is_drafter : List ℕ → Bool
is_drafter text = nat_lt 0 (length text) && (nat_le (length text) 32 && are_drafter_bytes text)

-- the drafter whose name a text spells
abbrev pub drafter_of : List ℕ → Option (List ℕ)
drafter_of text = if is_drafter text then Some text else None
