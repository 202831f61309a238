-- The rules of the parts of a name.
use Rattle.std.specs.Prelude.{ℕ, ◌==◌, Bool, true, false, ◌&&◌, ◌||◌, nat_le, List, [], ◌∷◌, length}
use Rattle.std.specs.List.{list_all}
use Rattle.std.specs.Char.{is_ascii_lowercase, is_ascii_alphabetic, is_ascii_alphanumeric, is_ascii_digit}

-- a lower-case letter or a digit, in ASCII
abbrev pub is_lowercase_or_digit : ℕ → Bool
is_lowercase_or_digit byte = is_ascii_lowercase byte || is_ascii_digit byte

-- a letter, a digit, or `-`, `.` or `_`, in ASCII
abbrev pub is_name_byte : ℕ → Bool
is_name_byte byte = is_ascii_alphanumeric byte || byte == 45 || byte == 46 || byte == 95

-- a letter, a digit, or `-` or `_`, in ASCII
abbrev pub is_portion_byte : ℕ → Bool
is_portion_byte byte = is_ascii_alphanumeric byte || byte == 45 || byte == 95

-- a subdivision of a country: nothing, or `-` and 1 to 8 lower-case letters or digits
unfoldable pub is_subdivision : List ℕ → Bool
is_subdivision [] = true
is_subdivision (dash ∷ rest) =
    dash == 45 && nat_le 1 (length rest) && nat_le (length rest) 8 && list_all is_lowercase_or_digit rest

-- a jurisdiction: two lower-case letters, and perhaps a subdivision
unfoldable pub is_jurisdiction : List ℕ → Bool
is_jurisdiction [] = false
is_jurisdiction (first ∷ []) = false
is_jurisdiction (first ∷ second ∷ rest) = is_ascii_lowercase first && is_ascii_lowercase second && is_subdivision rest

-- a text begins with a letter
unfoldable pub begins_with_letter : List ℕ → Bool
begins_with_letter [] = false
begins_with_letter (first ∷ rest) = is_ascii_alphabetic first

-- a word, which names a subtype or an actor: 1 to 32 such bytes, the first a letter
unfoldable pub is_word : List ℕ → Bool
is_word part = begins_with_letter part && nat_le (length part) 32 && list_all is_name_byte part

-- the number of a work: 1 to 64 such bytes
unfoldable pub is_number : List ℕ → Bool
is_number part = nat_le 1 (length part) && nat_le (length part) 64 && list_all is_name_byte part

-- a portion: 1 to 512 such bytes
unfoldable pub is_portion : List ℕ → Bool
is_portion part = nat_le 1 (length part) && nat_le (length part) 512 && list_all is_portion_byte part
