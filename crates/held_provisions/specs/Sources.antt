-- What is carried of the provisions that make the modifications of a work, by what is kept of the works that have them.
use Rattle.std.specs.Prelude.{◌≡◌, ℕ, Bool, true, List, [], ◌∷◌, find, is_some, map, nat_lt, Option, Some, None, option_and_then, option_map, if◌then◌else◌}
use Rattle.std.specs.Option.{option_map_or}
use Rattle.std.specs.Str.{bytes_eq}
use Rattle.law_register.specs.declared.answer.question.Reading.{Reading}
use Rattle.law_register.specs.declared.answer.question.Reading.TheVariants as reading
use Rattle.law_register.specs.declared.law.modification.ModSource.{ModSource}
use Rattle.law_register.specs.declared.law.modification.Modification.{Modification}
use Rattle.law_register.specs.declared.law.modification.Modification.TheVariants.{Textual, Force, Efficacy}
use Rattle.law_register.specs.declared.register.carried.Carried.{Carried}
use Rattle.law_register.specs.declared.register.known.Known.{Known}
use Rattle.law_register.specs.declared.register.known.KnownMod.{KnownMod}
use Rattle.law_register.specs.Answer.Breakpoints.{insert_days}
use Rattle.law_register.specs.Law.Sources.{source_of}
use Rattle.law_register.specs.Provisions.Depending.{breakpoints_of, depends}
use Rattle.law_register.specs.Provisions.Line.{work_in}
use Rattle.law_register.specs.Provisions.Spans.{spans_of}
use Rattle.law_register.specs.Provisions.Trees.{version_in}
use Rattle.version_cache.specs.Seen.{work_view}
use Rattle.version_cache.specs.Tables.{version_on}
use Rattle.version_cache.specs.Works.{IsAlike, WorkValue, table_in}
use Rattle.held_provisions.specs.declared.sources.MadeWorks.{MadeWorks}
use Rattle.held_provisions.specs.Kept.{stands_by_version}

-- what is kept of each work, if anything is
abbrev pub Kept : Type 0
Kept = List ℕ → Option WorkValue

-- works that were made, found by their names
abbrev pub made_of : MadeWorks → Kept
made_of made work = find (λ kept. bytes_eq kept.known.act.work work) (map work_view made.made.items)

-- a provision stands on a day by what is kept of its work
abbrev pub stands_kept : WorkValue → Reading → List ℕ → ℕ → Bool
stands_kept kept reading wid day = stands_by_version kept.known reading day wid (version_on (table_in reading kept) day)

-- what is carried of a provision by what is kept of its work
abbrev pub carried_in : WorkValue → List ℕ → Carried
carried_in kept wid = record {
  force = spans_of (stands_kept kept reading.Force wid) kept.days;
  efficacy = spans_of (stands_kept kept reading.Efficacy wid) kept.days;
}

-- what is kept of a work, where its act is of a later day than this one
abbrev pub if_later : ℕ → WorkValue → Option WorkValue
if_later day kept = if nat_lt day kept.known.act.day then Some kept else None

-- what is kept of the work whose provision is looked at from an act of this day
abbrev pub source_kept : Kept → ℕ → ModSource → Option WorkValue
source_kept kept day source = if is_some source.provision then option_and_then (if_later day) (kept source.href) else None

abbrev pub body_kept : Kept → ℕ → Modification → Option WorkValue
body_kept kept day (Textual source force edit) = source_kept kept day source
body_kept kept day (Force source destination on effect) = None
body_kept kept day (Efficacy source destination on effect) = None

abbrev pub mod_kept : Kept → ℕ → KnownMod → Option WorkValue
mod_kept kept day m = if m.live then body_kept kept day m.body else None

-- what a modification of an act of this day carries
abbrev pub carried_for : Kept → ℕ → KnownMod → Option Carried
carried_for kept day m = option_and_then (λ source. option_map (carried_in source) (source_of m.body).provision) (mod_kept kept day m)

abbrev pub mod_carrying_by : Kept → ℕ → KnownMod → KnownMod
mod_carrying_by kept day m = record m { carried = carried_for kept day m }

-- the days on which the texts of the works may change from which modifications of an act of this day come
abbrev pub days_for : Kept → ℕ → KnownMod → List ℕ
days_for kept day m = option_map_or (λ source. source.days) (mod_kept kept day m) []

abbrev pub days_by : Kept → ℕ → List KnownMod → List ℕ
days_by kept day [] = []
days_by kept day (m ∷ ms) = insert_days (days_for kept day m) (days_by kept day ms)

-- what is known of a work, with what it carries
abbrev pub carrying_by : Kept → Known → Known
carrying_by kept known = record known {
  mods = map (mod_carrying_by kept known.act.day) known.mods;
  source_days = days_by kept known.act.day known.mods;
}

-- what is kept of a work is right for a line: it is for that work of it, with its version of each day, and with its days
pub record IsKeptFor (line : List Known) (kept : WorkValue) : Type 0 where
  pub work : Known
  pub alike : IsAlike kept.known work
  pub there : work_in work.act.work line ≡ Some work
  pub versions : (reading : Reading) (day : ℕ) → version_on (table_in reading kept) day ≡ version_in line work reading day
  pub days : kept.days ≡ breakpoints_of line work

-- what is kept of a work is of the act that the line has of it
pub record IsOfLine (line : List Known) (work : List ℕ) (kept : WorkValue) : Type 0 where
  pub known : Known
  pub there : work_in work line ≡ Some known
  pub act : kept.known.act ≡ known.act

-- what is kept has the sources of a work in a line: each work of which something is kept is one of the line, and each on which the work
-- depends is kept, and right for the line
pub record AreSources (line : List Known) (work : Known) (kept : Kept) : Type 0 where
  pub acts : (name : List ℕ) (one : WorkValue) → kept name ≡ Some one → IsOfLine line name one
  pub right : (name : List ℕ) → depends line work name ≡ true → (one : WorkValue) × (kept name ≡ Some one) × IsKeptFor line one
