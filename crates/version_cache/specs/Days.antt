-- Days in a list, and the last of them by a day.
use Rattle.std.specs.Prelude.{ℕ, Bool, true, ◌&&◌, nat_le, nat_lt, if◌then◌else◌, filter, List, [], ◌∷◌, Option, Some, None}
use Rattle.std.specs.List.{list_all}
use Rattle.std.specs.Option.{option_or}
use Rattle.desk_base.specs.declared.id.Id.{Id}
use Rattle.law_register.specs.declared.answer.question.Reading.{Reading}
use Rattle.law_register.specs.declared.register.known.Known.{Known}
use Rattle.law_register.specs.Answer.Order.{order}

-- days ascend, each before all that come after it
abbrev pub is_ascending : List ℕ → Bool
is_ascending [] = true
is_ascending (day ∷ days) = list_all (λ later. nat_lt day later) days && is_ascending days

-- the last of these days that is not after this one
abbrev pub last_until : ℕ → List ℕ → Option ℕ
last_until day [] = None
last_until day (d ∷ ds) = option_or (last_until day ds) (if nat_le d day then Some d else None)

-- the days before this one
abbrev pub days_before : ℕ → List ℕ → List ℕ
days_before day days = filter (λ d. nat_lt d day) days

-- the last of some days
abbrev pub last_day : List ℕ → Option ℕ
last_day [] = None
last_day (d ∷ ds) = option_or (last_day ds) (Some d)

-- the order of a day, where there is one; nothing else
abbrev pub order_by : Known → Reading → Option ℕ → List Id
order_by known reading None = []
order_by known reading (Some day) = order known reading day
