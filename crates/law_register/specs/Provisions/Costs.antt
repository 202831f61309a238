-- What it costs to keep the versions of works that depend on each other, and to make what is held for one.
use Rattle.std.specs.Prelude.{ℕ, ◌+◌, ◌&&◌, ◌||◌, nat_le, Bool, List, [], ◌∷◌, ◌++◌, filter, length, map, Option, Some, None, if◌then◌else◌}
use Rattle.std.specs.List.{list_any, sum_by}
use Rattle.std.specs.Str.{bytes_eq}
use Rattle.desk_base.specs.declared.id.Id.{Id}
use Rattle.law_register.specs.declared.answer.question.Reading.{Reading}
use Rattle.law_register.specs.declared.answer.question.Reading.TheVariants.{Force, Efficacy}
use Rattle.law_register.specs.declared.register.entry.Entry.{Entry}
use Rattle.law_register.specs.declared.register.known.Known.{Known}
use Rattle.law_register.specs.Answer.Applied.{ids_applied}
use Rattle.law_register.specs.Register.LawList.{laws}
use Rattle.law_register.specs.Provisions.Depending.{breakpoints_of, depends}
use Rattle.law_register.specs.Provisions.Line.{line, work_in}
use Rattle.law_register.specs.Provisions.Touching.{touched_works}
use Rattle.law_register.specs.Provisions.Trees.{order_in}

-- how many ids are applied over these days from one on, each after those of the day before, where these are the ids before the first
abbrev pub cost_over : (ℕ → List Id) → ℕ → List Id → List ℕ → ℕ
cost_over order touched before [] = 0
cost_over order touched before (day ∷ days) =
    (if nat_le touched day then ids_applied before (order day) else 0) + cost_over order touched (order day) days

-- how many ids are applied to revise the versions of a work of a line from a day on
unfoldable pub revision_cost_in : List Known → Known → Reading → ℕ → ℕ
revision_cost_in works known reading touched = cost_over (order_in works known reading) touched [] (breakpoints_of works known)

-- the same in both readings, where the work is in the line
abbrev pub costs_in : List Known → Option Known → ℕ → ℕ
costs_in works None touched = 0
costs_in works (Some known) touched = revision_cost_in works known Force touched + revision_cost_in works known Efficacy touched

-- how many ids are applied once an entry stands behind others: of each work that it touches from its own day on, by the line with it
unfoldable pub entry_cost_in : List Entry → Entry → ℕ
entry_cost_in entries entry =
    sum_by (λ t. costs_in (line (laws (entries ++ entry ∷ []))) (work_in t.0 (line (laws (entries ++ entry ∷ [])))) t.1)
    (touched_works entries entry)

-- how many ids bear at the breakpoints of a work, in both readings: so many are applied at most to find when its provisions stand
abbrev pub full : List Known → Known → ℕ
full works known =
    sum_by (λ day. length (order_in works known Force day) + length (order_in works known Efficacy day)) (breakpoints_of works known)

-- a work with those on which it depends, directly or through others
pub record WorkNeeds : Type 0 where
  pub known : Known
  pub needs : List Known

-- a work is one of these
abbrev pub is_one_of : List Known → Known → Bool
is_one_of works known = list_any (λ k. bytes_eq k.act.work known.act.work) works

-- a work depends on another through one ahead of it, or on that one itself
abbrev pub needs_through : List Known → Known → Known → WorkNeeds → Bool
needs_through works known other w =
    depends works known w.known.act.work && (bytes_eq w.known.act.work other.act.work || is_one_of w.needs other)

-- of works ahead of one, those that it needs
abbrev pub needed : List Known → List WorkNeeds → Known → List Known
needed works ahead known = filter (λ other. list_any (needs_through works known other) ahead) (map (λ w. w.known) ahead)

abbrev pub work_needs : List Known → List WorkNeeds → Known → WorkNeeds
work_needs works ahead known = record { known = known; needs = needed works ahead known }

-- works with those that they need, and behind them more works, each by those ahead of it
abbrev pub needs_after : List Known → List WorkNeeds → List Known → List WorkNeeds
needs_after works ahead [] = ahead
needs_after works ahead (known ∷ others) = needs_after works (ahead ++ work_needs works ahead known ∷ []) others

-- the works of a line, each with those that it needs
unfoldable pub needs_along : List Known → List WorkNeeds
needs_along works = needs_after works [] works

-- how many ids are applied to make what is held for a work
abbrev pub held_cost : List Known → Known → ℕ
held_cost works known = sum_by (full works) (needed works (needs_along works) known)

-- the same, where the work is known
abbrev pub held_cost_if : List Known → Option Known → ℕ
held_cost_if works None = 0
held_cost_if works (Some known) = held_cost works known
