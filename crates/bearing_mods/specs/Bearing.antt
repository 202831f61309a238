-- On which days a thing bears.
use Rattle.std.specs.Prelude.{ℕ, Bool}
use Rattle.desk_base.specs.declared.period.Period.{Period}
use Rattle.desk_base.specs.Periods.{includes}

-- a thing bears on the days that its period includes
abbrev pub bears : Period → ℕ → Bool
bears = includes
