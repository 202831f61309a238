-- When a modification counts by what is carried of the provision that makes it.
use Rattle.std.specs.Prelude.{ℕ, Bool, true, ◌&&◌, List, [], map, Option, Some, None}
use Rattle.std.specs.List.{list_any}
use Rattle.desk_base.specs.declared.period.Period.{Period}
use Rattle.desk_base.specs.Periods.{includes}
use Rattle.law_register.specs.declared.answer.question.Reading.{Reading}
use Rattle.law_register.specs.declared.answer.question.Reading.TheVariants as reading
use Rattle.law_register.specs.declared.register.carried.Carried.{Carried}
use Rattle.law_register.specs.declared.register.known.Known.{Known}
use Rattle.law_register.specs.declared.register.known.KnownMod.{KnownMod}

-- a day is in one of these periods
abbrev pub is_within : List Period → ℕ → Bool
is_within spans day = list_any (λ span. includes span day) spans

-- the periods on whose days a provision stands in a reading
abbrev pub spans_in : Reading → Carried → List Period
spans_in reading.Force carried = carried.force
spans_in reading.Efficacy carried = carried.efficacy

-- a provision stands by what is carried of it; where nothing is, none is looked at
abbrev pub stands_by : Reading → ℕ → Option Carried → Bool
stands_by reading day None = true
stands_by reading day (Some carried) = is_within (spans_in reading carried) day

-- a modification counts on a day: it stands, and so does the provision that makes it, where that is looked at
abbrev pub counts : Reading → ℕ → KnownMod → Bool
counts reading day m = m.live && stands_by reading day m.carried

-- a modification, and a work, of which nothing is carried
abbrev pub mod_alone : KnownMod → KnownMod
mod_alone m = record m { carried = None }

abbrev pub alone : Known → Known
alone known = record known { mods = map mod_alone known.mods; source_days = [] }
