-- Periods of days.
use Rattle.std.specs.Prelude.{ℕ, Bool, true, ◌&&◌, nat_le, nat_lt, Option, Some, None}
use Rattle.desk_base.specs.declared.period.Period.{Period}

-- a day is before the end, where there is one
abbrev pub is_before_end : ℕ → Option ℕ → Bool
is_before_end day None = true
is_before_end day (Some end) = nat_lt day end

-- a day lies in a period from its start on, and before its end where it has one
abbrev pub includes : Period → ℕ → Bool
includes period day = nat_le period.start day && is_before_end day period.end

-- a period ends after its start, if it ends
abbrev pub ends_after_its_start : Period → Bool
ends_after_its_start period = is_before_end period.start period.end
