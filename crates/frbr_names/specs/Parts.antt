-- The parts of a name: what stands between its slashes.
use Rattle.std.specs.Prelude.{ℕ, ◌==◌, Bool, nat_lt, nat_eq, List, length, drop, Option, Some, None, if◌then◌else◌}
use Rattle.std.specs.List.{before_first, after_first, position_or_len, starts_with}

-- the byte is a `/`
abbrev pub is_slash : ℕ → Bool
is_slash byte = byte == 47

-- the part that stands first: what comes before the next `/`, or all where none comes
unfoldable pub part_of : List ℕ → List ℕ
part_of left = before_first is_slash left

-- what stands behind the next `/`; nothing, where none comes
unfoldable pub behind_part : List ℕ → List ℕ
behind_part left = after_first is_slash left

-- what stands behind the next `/`, if one comes
unfoldable pub behind_slash : List ℕ → Option (List ℕ)
behind_slash left =
    if nat_lt (position_or_len is_slash left) (length left) then Some (after_first is_slash left) else None

-- what stands behind some bytes, where the text begins with them
unfoldable pub after_front : List ℕ → List ℕ → Option (List ℕ)
after_front front text = if starts_with nat_eq text front then Some (drop (length front) text) else None
