-- The nums of provisions.
use Rattle.std.specs.Prelude.{ℕ, ◌==◌, Bool, ◌&&◌, ◌||◌, nat_le, List, Option, Some, None, if◌then◌else◌, length}
use Rattle.std.specs.List.{list_all}

-- a letter, a digit or a dash, in ASCII
abbrev pub is_num_byte : ℕ → Bool
is_num_byte b =
    (nat_le 48 b && nat_le b 57) || (nat_le 65 b && nat_le b 90) || (nat_le 97 b && nat_le b 122) || (b == 45)

-- a num is 1 to 16 of these bytes
abbrev pub is_num : List ℕ → Bool
is_num text = nat_le 1 (length text) && nat_le (length text) 16 && list_all is_num_byte text

-- the num that a text spells, which is the text itself
abbrev pub num_of : List ℕ → Option (List ℕ)
num_of text = if is_num text then Some text else None
