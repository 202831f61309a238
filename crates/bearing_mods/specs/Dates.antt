-- What a date does to a bound of a period.
use Rattle.std.specs.Prelude.{ℕ, max, Option, Some, None}

-- an end that is put off to a date becomes the later of the two; what has no end gets none
abbrev pub put_off : Option ℕ → ℕ → Option ℕ
put_off None date = None
put_off (Some end) date = Some (max end date)
