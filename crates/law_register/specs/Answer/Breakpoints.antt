-- The days on which the text of a work may change.
use Rattle.std.specs.Prelude.{ℕ, ◌==◌, ◌||◌, ◌&&◌, Bool, List, [], ◌∷◌, Option, Some, None, if◌then◌else◌}
use Rattle.std.specs.BTreeSet.{insert_key}
use Rattle.std.specs.List.{list_any}
use Rattle.std.specs.Ordering.{nat_cmp}
use Rattle.desk_base.specs.declared.period.Period.{Period}
use Rattle.bearing_mods.specs.declared.force.ForceEffect.{ForceEffect}
use Rattle.bearing_mods.specs.declared.force.ForceEffect.TheVariants as force
use Rattle.bearing_mods.specs.declared.efficacy.EfficacyEffect.{EfficacyEffect}
use Rattle.bearing_mods.specs.declared.efficacy.EfficacyEffect.TheVariants as efficacy
use Rattle.law_register.specs.declared.register.known.Known.{Known}
use Rattle.law_register.specs.declared.register.known.KnownMod.{KnownMod}
use Rattle.law_register.specs.declared.law.modification.Modification.{Modification}
use Rattle.law_register.specs.declared.law.modification.Modification.TheVariants.{Textual, Force, Efficacy}

-- the end, where there is one
abbrev pub end_days : Option ℕ → List ℕ
end_days None = []
end_days (Some day) = day ∷ []

-- the bounds of a period
abbrev pub period_days : Period → List ℕ
period_days p = p.start ∷ end_days p.end

-- the date of a force effect
abbrev pub force_date : ForceEffect → ℕ
force_date (force.Entry day) = day
force_date (force.Postponed day) = day
force_date (force.Ended day) = day
force_date (force.Prorogued day) = day
force_date (force.ReEnacted day) = day

-- the days of an efficacy effect
abbrev pub efficacy_days : EfficacyEffect → List ℕ
efficacy_days (efficacy.Entry day) = day ∷ []
efficacy_days (efficacy.Ended day) = day ∷ []
efficacy_days (efficacy.Retroactive day) = day ∷ []
efficacy_days (efficacy.Postponed day) = day ∷ []
efficacy_days (efficacy.Prorogued day) = day ∷ []
efficacy_days efficacy.Extra = []
efficacy_days (efficacy.Inapplied days) = period_days days

-- the days of a modification: the bounds of its period, or the day from which it is counted and those of its effect
abbrev pub days_of : Modification → List ℕ
days_of (Textual source force edit) = period_days force
days_of (Force source destination on effect) = on ∷ force_date effect ∷ []
days_of (Efficacy source destination on effect) = on ∷ efficacy_days effect

-- these days take their places in an ascending list, each once
abbrev pub insert_days : List ℕ → List ℕ → List ℕ
insert_days [] days = days
insert_days (new ∷ news) days = insert_key nat_cmp (insert_days news days) new

-- the days of the modifications that stand
abbrev pub live_days : List KnownMod → List ℕ
live_days [] = []
live_days (m ∷ ms) = insert_days (if m.live then days_of m.body else []) (live_days ms)

-- the days of the act's force period and of the modifications that stand, and these others, ascending, each once
abbrev pub days_with : Known → List ℕ → List ℕ
days_with known others = insert_days (period_days known.act.force) (insert_days others (live_days known.mods))

-- the days that a work names itself, and those of the works on which it depends, ascending, each once
abbrev pub breakpoints : Known → List ℕ
breakpoints known = days_with known known.source_days

-- a day is one of these
abbrev pub has_day : ℕ → List ℕ → Bool
has_day day days = list_any (λ d. day == d) days

-- a day is named by what is known of a work: by the act's force period, by a work on which it depends, or by a modification that stands
abbrev pub is_named : Known → ℕ → Bool
is_named known day =
    has_day day (period_days known.act.force)
    || (has_day day known.source_days || list_any (λ m. m.live && has_day day (days_of m.body)) known.mods)
