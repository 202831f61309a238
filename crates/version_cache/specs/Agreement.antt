-- When two views of a work agree: what bears before a day bears in both, and says the same.
use Rattle.std.specs.Prelude.{◌≡◌, ◌<◌, ◌≤◌, ℕ, List, Option, Some, None, option_map}
use Rattle.std.specs.List.{AllByRecursion, find}
use Rattle.desk_base.specs.declared.id.Id.{Id}
use Rattle.law_register.specs.declared.answer.question.Reading.{Reading}
use Rattle.law_register.specs.declared.law.modification.Modification.{Modification}
use Rattle.law_register.specs.declared.register.known.Known.{Known}
use Rattle.law_register.specs.declared.register.known.KnownMod.{KnownMod}
use Rattle.law_register.specs.Answer.Counted.{is_same_id}
use Rattle.law_register.specs.Answer.Order.{order}

-- what the known modification of this id says
abbrev pub body_of : List KnownMod → Id → Option Modification
body_of mods id = option_map (λ m. m.body) (find (λ m. is_same_id m.id id) mods)

-- on a day the same modifications bear in two views, in the same order, and each says the same
pub record AgreeOn (old new : Known) (reading : Reading) (day : ℕ) : Type 0 where
  pub orders : order old reading day ≡ order new reading day
  pub bodies : AllByRecursion (λ id. body_of old.mods id ≡ body_of new.mods id) (order new reading day)

-- a day is before another; each day is, where there is no other
abbrev pub IsBefore : ℕ → Option ℕ → Type 0
IsBefore day None = Unit {0}
IsBefore day (Some touched) = day < touched

-- a day of the calendar, of which 1 is the first, is before another; each day is, where there is no other, and whatever its number
abbrev pub IsEarly : ℕ → Option ℕ → Type 0
IsEarly day None = Unit {0}
IsEarly day (Some touched) = (1 ≤ day) × (day < touched)

-- two views of one act agree before a day, or where there is none on all days
pub record Agree (old new : Known) (reading : Reading) (touched : Option ℕ) : Type 0 where
  pub act : old.act ≡ new.act
  pub days : (day : ℕ) → IsBefore day touched → AgreeOn old new reading day
