-- From which days modifications are due, and what the due ones are by those days.
use Rattle.std.specs.Prelude.{ℕ, List, [], ◌∷◌, map, Option, Some, None, if◌then◌else◌}
use Rattle.std.specs.BTreeMap.{is_at}
use Rattle.std.specs.Set.{remove_key}
use Rattle.desk_base.specs.declared.id.Id.{Id}
use Rattle.law_register.specs.declared.answer.due.Due.{Due}
use Rattle.law_register.specs.declared.answer.question.Reading.{Reading}
use Rattle.law_register.specs.declared.register.known.KnownMod.{KnownMod}
use Rattle.law_register.specs.declared.law.modification.Destination.TheVariants as to
use Rattle.law_register.specs.declared.law.modification.Modification.{Modification}
use Rattle.law_register.specs.declared.law.modification.Modification.TheVariants.{Textual, Force, Efficacy}
use Rattle.law_register.specs.Answer.Bearing.{start_on}
use Rattle.law_register.specs.Answer.Order.{due_cmp, due_from, with_due}
use Rattle.law_register.specs.Answer.Standing.{counts}

-- the day from which a modification is due, if it is a textual one that bears on the day
abbrev pub body_start : Reading → ℕ → List KnownMod → Id → Modification → Option ℕ
body_start reading day mods id (Textual source own edit) = start_on reading day mods (to.Modification id) own
body_start reading day mods id (Force source destination on effect) = None
body_start reading day mods id (Efficacy source destination on effect) = None

-- the same of a known one, if it counts
abbrev pub known_start : Reading → ℕ → List KnownMod → KnownMod → Option ℕ
known_start reading day mods m = if counts reading day m then body_start reading day mods m.id m.body else None

-- those of some of the known modifications of a work, one by one
abbrev pub starts_of : Reading → ℕ → List KnownMod → List KnownMod → List (Option ℕ)
starts_of reading day mods ms = map (known_start reading day mods) ms

-- the keys of a modification that is due from a day, if it is a textual one
abbrev pub body_due : Id → ℕ → Modification → Option Due
body_due id start (Textual source own edit) = Some (due_from source id start)
body_due id start (Force source destination on effect) = None
body_due id start (Efficacy source destination on effect) = None

-- the keys of a modification, if there is a day from which it is due
abbrev pub due_at : Id → Modification → Option ℕ → Option Due
due_at id body None = None
due_at id body (Some start) = body_due id start body

-- the same of a known one
abbrev pub known_due : KnownMod → Option ℕ → Option Due
known_due m start = due_at m.id m.body start

-- known modifications in order, each by the day from which it is due
abbrev pub due_by : List KnownMod → List (Option ℕ) → List Due
due_by [] starts = []
due_by (m ∷ ms) [] = []
due_by (m ∷ ms) (start ∷ starts) = with_due (due_by ms starts) (known_due m start)

-- others without one
abbrev pub without_due : List Due → Option Due → List Due
without_due dues None = dues
without_due dues (Some due) = remove_key (is_at (due_cmp due)) dues

-- no day, from which nothing is due
abbrev pub no_start : KnownMod → Option ℕ
no_start m = None
