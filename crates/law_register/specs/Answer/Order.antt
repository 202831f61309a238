-- Which textual modifications bear on a day, and in what order they are applied.
use Rattle.std.specs.Prelude.{ℕ, ◌&&◌, Bool, is_some, List, [], ◌∷◌, map, Option, Some, None, option_map, if◌then◌else◌}
use Rattle.std.specs.BTreeSet.{insert_key}
use Rattle.std.specs.List.{list_any}
use Rattle.std.specs.Cmp.Lexicographic.{slice_cmp}
use Rattle.std.specs.Ordering.{nat_cmp, on, then_cmp}
use Rattle.std.specs.declared.cmp.Ordering.{Ordering}
use Rattle.desk_base.specs.declared.id.Id.{Id}
use Rattle.frbr_names.specs.Dates.{first_day}
use Rattle.frbr_names.specs.Works.{date_named}
use Rattle.frbr_names.specs.declared.date.IriDate.{IriDate}
use Rattle.law_register.specs.declared.answer.due.Due.{Due}
use Rattle.law_register.specs.declared.register.known.Known.{Known}
use Rattle.law_register.specs.declared.register.known.KnownMod.{KnownMod}
use Rattle.law_register.specs.declared.law.modification.Destination.TheVariants as to
use Rattle.law_register.specs.declared.law.modification.ModSource.{ModSource}
use Rattle.law_register.specs.declared.law.modification.Modification.{Modification}
use Rattle.law_register.specs.declared.law.modification.Modification.TheVariants.{Textual, Force, Efficacy}
use Rattle.law_register.specs.declared.answer.question.Reading.{Reading}
use Rattle.law_register.specs.Answer.Bearing.{start_on}
use Rattle.law_register.specs.Answer.Counted.{is_same_id}
use Rattle.law_register.specs.Answer.Standing.{counts}

-- the day of a work by its IRI: 1 January where it has a year alone; 0 where it names no work
abbrev pub day_in : Option IriDate → ℕ
day_in None = 0
day_in (Some date) = first_day date

-- the day of a source
abbrev pub source_day : ModSource → ℕ
source_day source = day_in (date_named source.href)

-- what bears is ordered by the day from which it does, the day of its source, the bytes of the source's IRI, the place in it and
-- the id
abbrev pub due_cmp : Due → Due → Ordering
due_cmp =
    then_cmp (on (λ d. d.start) nat_cmp)
    (then_cmp (on (λ d. d.source_day) nat_cmp)
    (then_cmp (on (λ d. d.href) (slice_cmp nat_cmp))
    (then_cmp (on (λ d. d.place) nat_cmp)
    (then_cmp (on (λ d. d.id.law) nat_cmp) (on (λ d. d.id.item) nat_cmp)))))

-- the keys of a modification of this source and id that bears from a day
abbrev pub due_from : ModSource → Id → ℕ → Due
due_from source id start =
    record { start = start; source_day = source_day source; href = source.href; place = source.place; id = id }

-- the keys of a modification, if it is a textual one that bears on the day
abbrev pub due_as : Reading → ℕ → List KnownMod → Id → Modification → Option Due
due_as reading day mods id (Textual source own edit) =
    option_map (due_from source id) (start_on reading day mods (to.Modification id) own)
due_as reading day mods id (Force source destination on effect) = None
due_as reading day mods id (Efficacy source destination on effect) = None

-- one that is due takes its place among others, once
abbrev pub with_due : List Due → Option Due → List Due
with_due dues None = dues
with_due dues (Some due) = insert_key due_cmp dues due

-- of some of the known modifications of a work, the textual ones that count and bear on the day, in order
abbrev pub due_of : Reading → ℕ → List KnownMod → List KnownMod → List Due
due_of reading day mods [] = []
due_of reading day mods (m ∷ ms) =
    with_due (due_of reading day mods ms) (if counts reading day m then due_as reading day mods m.id m.body else None)

-- the textual modifications of a work that bear on a day, in the order in which they are applied
abbrev pub due_on : Known → Reading → ℕ → List Due
due_on known reading day = due_of reading day known.mods known.mods

-- their ids
abbrev pub order : Known → Reading → ℕ → List Id
order known reading day = map (λ due. due.id) (due_on known reading day)

-- a known modification is due: it counts, is textual, and bears on the day
abbrev pub is_due : Reading → ℕ → List KnownMod → KnownMod → Bool
is_due reading day mods m = counts reading day m && is_some (due_as reading day mods m.id m.body)

-- a modification of this id is due
abbrev pub is_due_id : Known → Reading → ℕ → Id → Bool
is_due_id known reading day id = list_any (λ m. is_same_id id m.id && is_due reading day known.mods m) known.mods
