-- How many bytes a name and a text take where they are kept, each behind its length.
use Rattle.std.specs.Prelude.{ℕ, ◌+◌, List, length}

-- a num or a drafter's name, behind a length of one byte
abbrev pub name_size : List ℕ → ℕ
name_size name = 1 + length name

-- a text, behind a length of two bytes
abbrev pub text_size : List ℕ → ℕ
text_size text = 2 + length text
