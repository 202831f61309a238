-- The draws: numbers that a seed determines, one after another. Each state of the draws determines the next, and the
-- seed is the first.
use Rattle.std.specs.Prelude.{ℕ, ◌+◌, ◌*◌, ◌/◌, ◌%◌, ◌^◌}

-- the state behind a state
unfoldable pub next : ℕ → ℕ
next x = (x * 6364136223846793005 + 1442695040888963407) % 2 ^ 64

-- the number below a limit that a state shows, by its 31 highest bits
abbrev pub drawn : ℕ → ℕ → ℕ
drawn limit x = (x / 2 ^ 33) % limit
