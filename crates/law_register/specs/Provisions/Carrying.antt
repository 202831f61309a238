-- What is carried of the provisions that make the modifications of a work: on which days they stand, by the texts of all works.
use Rattle.std.specs.Prelude.{ℕ, ◌&&◌, List, [], map, Option, None, option_map, take, if◌then◌else◌}
use Rattle.std.specs.Option.{option_map_or}
use Rattle.desk_base.specs.declared.period.Period.{Period}
use Rattle.law_register.specs.declared.answer.question.Reading.{Reading}
use Rattle.law_register.specs.declared.answer.question.Reading.TheVariants.{Force, Efficacy}
use Rattle.law_register.specs.declared.law.modification.ModSource.{ModSource}
use Rattle.law_register.specs.declared.register.carried.Carried.{Carried}
use Rattle.law_register.specs.declared.register.entry.Entry.{Entry}
use Rattle.law_register.specs.declared.register.known.Known.{Known}
use Rattle.law_register.specs.declared.register.known.KnownMod.{KnownMod}
use Rattle.law_register.specs.Law.Sources.{source_of}
use Rattle.law_register.specs.Provisions.Depending.{breakpoints_of, days_along, source_days}
use Rattle.law_register.specs.Provisions.Line.{line, work_in}
use Rattle.law_register.specs.Provisions.Looking.{looked_at}
use Rattle.law_register.specs.Provisions.Spans.{spans_of}
use Rattle.law_register.specs.Provisions.Trees.{stands, trees}
use Rattle.law_register.specs.Register.KnownIds.{known_at}
use Rattle.law_register.specs.Register.LawList.{front, laws}

-- the days on which the text of a work of a line may change; none, where the line does not have it
abbrev pub days_in : List Known → List ℕ → List ℕ
days_in works work = option_map_or (breakpoints_of works) (work_in work works) []

-- the longest periods on whose days a provision of a work stands in a reading
abbrev pub stands_in_spans : List Known → Reading → List ℕ → List ℕ → List Period
stands_in_spans works reading work provision =
    spans_of (λ day. stands (trees works reading day) reading day work provision) (days_in works work)

-- what is carried of a provision of a work
abbrev pub carried_of : List Known → List ℕ → List ℕ → Carried
carried_of works work provision = record {
  force = stands_in_spans works Force work provision;
  efficacy = stands_in_spans works Efficacy work provision;
}

-- what is carried of the provision that a source names, if it names one
abbrev pub carried_by : List Known → ModSource → Option Carried
carried_by works source = option_map (carried_of works source.href) source.provision

-- a modification of an act of this day, with what is carried of its provision where it stands and its provision is looked at
abbrev pub mod_carrying : List Known → ℕ → KnownMod → KnownMod
mod_carrying works day m =
    record m { carried = if m.live && looked_at works day m.body then carried_by works (source_of m.body) else None }

-- what is known of a work, with what is carried of its provisions by a line, and the days of the works on which it depends
abbrev pub carrying : List Known → Known → Known
carrying works known = record known {
  mods = map (mod_carrying works known.act.day) known.mods;
  source_days = source_days works known (days_along works);
}

-- what is known of a work at a viewpoint, with what it carries by the law that is known there
abbrev pub known_held : List Entry → List ℕ → ℕ → Option Known
known_held entries work viewpoint =
    option_map (carrying (line (take viewpoint (laws entries)))) (known_at entries work viewpoint)

-- the same at the front
abbrev pub held_now : List Entry → List ℕ → Option Known
held_now entries work = known_held entries work (front entries)
