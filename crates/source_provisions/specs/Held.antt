-- What is held of the provisions that a work looks at: on which days each stands.
use Rattle.std.specs.Prelude.{◌≡◌, ℕ, Bool, true, false, ◌&&◌, List, [], ◌∷◌, filter, find, length, map, Option, Some, None, option_map, if◌then◌else◌}
use Rattle.std.specs.List.{AllByRecursion, list_any}
use Rattle.std.specs.Option.{option_map_or}
use Rattle.std.specs.Str.{bytes_eq}
use Rattle.desk_base.specs.declared.period.Period.{Period}
use Rattle.law_register.specs.declared.answer.question.Reading.{Reading}
use Rattle.law_register.specs.declared.answer.question.Reading.TheVariants as reading
use Rattle.law_register.specs.declared.law.modification.ModSource.{ModSource}
use Rattle.law_register.specs.declared.law.modification.Modification.{Modification}
use Rattle.law_register.specs.declared.law.modification.Modification.TheVariants.{Textual, Force, Efficacy}
use Rattle.law_register.specs.declared.register.known.Known.{Known}
use Rattle.law_register.specs.declared.register.known.KnownMod.{KnownMod}
use Rattle.law_register.specs.Answer.PastKeys.{is_same_reading}
use Rattle.law_register.specs.Answer.Standing.{is_within}
use Rattle.law_register.specs.Law.Sources.{source_of}
use Rattle.law_register.specs.Provisions.Depending.{comes_from, days_along, source_days}
use Rattle.law_register.specs.Provisions.Looking.{looked_at}
use Rattle.law_register.specs.Provisions.Spans.{spans_of}
use Rattle.law_register.specs.Provisions.Trees.{stands, trees}

-- what is held of a provision in a reading: the periods on whose days it stands
pub record HeldValue : Type 0 where
  pub work : List ℕ
  pub provision : List ℕ
  pub reading : Reading
  pub spans : List Period

-- what is held of all provisions that a work looks at, and the days on which the texts of their works may change
pub record HoldingValue : Type 0 where
  pub held : List HeldValue
  pub days : List ℕ

-- this is held of that provision, in that reading
abbrev pub is_of : List ℕ → List ℕ → Reading → HeldValue → Bool
is_of work provision reading held =
    bytes_eq held.work work && (bytes_eq held.provision provision && is_same_reading held.reading reading)

-- a source names this provision
abbrev pub names : List ℕ → ModSource → Bool
names provision source = option_map_or (λ wid. bytes_eq wid provision) source.provision false

-- a work looks at a provision: one of its modifications that stand comes from there
abbrev pub looks_at : List Known → Known → List ℕ → List ℕ → Bool
looks_at line known work provision =
    list_any (λ m. comes_from line known.act.day work m && names provision (source_of m.body)) known.mods

-- what is held is right for what is known of a work in a line: each provision that it looks at is held once in each reading, and no
-- other; on exactly the days of its periods a provision stands; and the days are all those of the works on which it depends
pub record IsRight (line : List Known) (known : Known) (holding : HoldingValue) : Type 0 where
  pub each_once : (work provision : List ℕ) (reading : Reading)
      → length (filter (is_of work provision reading) holding.held) ≡ (if looks_at line known work provision then 1 else 0)
  pub spans : AllByRecursion (λ held. (day : ℕ)
      → is_within held.spans day ≡ stands (trees line held.reading day) held.reading day held.work held.provision) holding.held
  pub days : holding.days ≡ source_days line known (days_along line)

-- a provision stands by what is held of it; where nothing is, it is not looked at
abbrev pub stands_by : Option HeldValue → ℕ → Bool
stands_by None day = true
stands_by (Some held) day = is_within held.spans day

abbrev pub named_holds : List HeldValue → Reading → ℕ → List ℕ → Option (List ℕ) → Bool
named_holds held reading day work None = true
named_holds held reading day work (Some provision) = stands_by (find (is_of work provision reading) held) day

-- a modification is borne on a day by what is held; one of force or efficacy always is
abbrev pub holds : List HeldValue → Reading → ℕ → Modification → Bool
holds held reading day (Textual source force edit) = named_holds held reading day source.href source.provision
holds held reading day (Force source destination on effect) = true
holds held reading day (Efficacy source destination on effect) = true

-- what is known of a work, as it counts on a day by what is held; nothing else is carried
abbrev pub mod_held : List HeldValue → Reading → ℕ → KnownMod → KnownMod
mod_held held reading day m = record m { live = m.live && holds held reading day m.body; carried = None }

abbrev pub work_held : List HeldValue → Reading → ℕ → Known → Known
work_held held reading day known = record known { mods = map (mod_held held reading day) known.mods; source_days = [] }

-- the work and the provision from which a modification comes that stands, where the provision is looked at
abbrev pub place_of : List Known → ℕ → KnownMod → Option (List ℕ × List ℕ)
place_of line day m =
    if m.live && looked_at line day m.body
    then option_map (λ wid. ((source_of m.body).href, wid)) (source_of m.body).provision else None

abbrev pub is_place : List ℕ → List ℕ → List ℕ × List ℕ → Bool
is_place work wid place = bytes_eq place.0 work && bytes_eq place.1 wid

-- a place beside others, once
abbrev pub with_place : Option (List ℕ × List ℕ) → List (List ℕ × List ℕ) → List (List ℕ × List ℕ)
with_place None places = places
with_place (Some place) places = if list_any (is_place place.0 place.1) places then places else place ∷ places

-- the places from which modifications of an act of this day come, each once
abbrev pub places : List Known → ℕ → List KnownMod → List (List ℕ × List ℕ)
places line day [] = []
places line day (m ∷ ms) = with_place (place_of line day m) (places line day ms)

-- what is to be held of a place in a reading, by the texts of all works
abbrev pub held_at : List Known → Known → Reading → List ℕ × List ℕ → HeldValue
held_at line known reading place = record {
  work = place.0;
  provision = place.1;
  reading = reading;
  spans = spans_of (λ day. stands (trees line reading day) reading day place.0 place.1) (source_days line known (days_along line));
}

-- what is to be held of places, in both readings
abbrev pub all_held : List Known → Known → List (List ℕ × List ℕ) → List HeldValue
all_held line known [] = []
all_held line known (place ∷ others) =
    held_at line known reading.Force place ∷ held_at line known reading.Efficacy place ∷ all_held line known others

-- what is to be held for what is known of a work in a line
abbrev pub holding_of : List Known → Known → HoldingValue
holding_of line known = record {
  held = all_held line known (places line known.act.day known.mods);
  days = source_days line known (days_along line);
}
