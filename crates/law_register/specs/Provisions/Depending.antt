-- Which works depend on which, and the days on which the text of a work may change.
use Rattle.std.specs.Prelude.{◌≡◌, ℕ, Bool, true, false, ◌&&◌, List, [], ◌∷◌, ◌++◌, if◌then◌else◌}
use Rattle.std.specs.List.{list_any}
use Rattle.std.specs.Option.{option_map_or}
use Rattle.std.specs.Str.{bytes_eq}
use Rattle.law_register.specs.declared.register.known.Known.{Known}
use Rattle.law_register.specs.declared.register.known.KnownMod.{KnownMod}
use Rattle.law_register.specs.Answer.Breakpoints.{days_with, insert_days}
use Rattle.law_register.specs.Law.Sources.{source_of}
use Rattle.law_register.specs.Provisions.Line.{work_in}
use Rattle.law_register.specs.Provisions.Looking.{looked_at}

-- a modification of an act of this day stands, comes from a work, and its provision there is looked at
abbrev pub comes_from : List Known → ℕ → List ℕ → KnownMod → Bool
comes_from line day work m = m.live && (looked_at line day m.body && bytes_eq (source_of m.body).href work)

-- a work depends on another: one of its modifications comes from there
abbrev pub depends : List Known → Known → List ℕ → Bool
depends line known work = list_any (comes_from line known.act.day work) known.mods

-- the same of the work of this IRI, where the line has it
abbrev pub depends_in : List Known → List ℕ → List ℕ → Bool
depends_in line work on = option_map_or (λ known. depends line known on) (work_in work line) false

-- works of a line of which each depends on the next
abbrev pub IsChain : List Known → Known → List Known → Type 0
IsChain line known [] = Unit {0}
IsChain line known (next ∷ works) = (depends line known next.act.work ≡ true) × IsChain line next works

-- a work with the days on which its text may change
pub record WorkDays : Type 0 where
  pub known : Known
  pub days : List ℕ

-- of works with their days, the days of those on which a work depends, ascending, each once
abbrev pub source_days : List Known → Known → List WorkDays → List ℕ
source_days line known [] = []
source_days line known (w ∷ ws) =
    insert_days (if depends line known w.known.act.work then w.days else []) (source_days line known ws)

-- a work with its days: those that it names itself, and those of the works on which it depends
abbrev pub work_days : List Known → List WorkDays → Known → WorkDays
work_days line ahead known =
    record { known = known; days = days_with known (source_days line known ahead) }

-- a work with the days that it names itself
abbrev pub own_days : Known → WorkDays
own_days known = record { known = known; days = days_with known [] }

-- works with their days, and behind them more works, each by those ahead of it
abbrev pub days_after : List Known → List WorkDays → List Known → List WorkDays
days_after line ahead [] = ahead
days_after line ahead (known ∷ works) = days_after line (ahead ++ work_days line ahead known ∷ []) works

-- the works of a line, each with its days
unfoldable pub days_along : List Known → List WorkDays
days_along line = days_after line [] line

-- the breakpoints of a work of a line: the days on which its text may change, ascending, each once
abbrev pub breakpoints_of : List Known → Known → List ℕ
breakpoints_of line known = days_with known (source_days line known (days_along line))
