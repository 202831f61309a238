-- The dates that stand in names.
use Rattle.std.specs.Prelude.{ℕ, ◌+◌, ◌*◌, ◌/◌, ◌≤◌, ◌==◌, Bool, List, [], ◌∷◌, length, get_or, Option, Some, None, option_and_then, if◌then◌else◌}
use Rattle.desk_base.specs.Days as days
use Rattle.desk_base.specs.Days.{IsDay, number_of, pair_of, day_of, day_text, last_digit}
use Rattle.frbr_names.specs.declared.date.IriDate.{IriDate}
use Rattle.frbr_names.specs.declared.date.IriDate.TheVariants.{Year, Full}

infixl 10 ◌>>=◌
abbrev ◌>>=◌ : {A B : Type 0} → Option A → (A → Option B) → Option B
o >>= f = option_and_then f o

-- the year that four digits spell, from 0001
unfoldable pub year_of : List ℕ → Option ℕ
year_of part = do
  century ← pair_of (get_or part 0 0) (get_or part 1 0)
  year ← pair_of (get_or part 2 0) (get_or part 3 0)
  if 100 * century + year == 0 then None else Some (100 * century + year)

-- the date that a part spells: a year of four digits, or a day YYYY-MM-DD
unfoldable pub date_of : List ℕ → Option IriDate
date_of part =
    if length part == 4 then (do
      year ← year_of part
      Some (Year year))
    else (do
      day ← day_of part
      Some (Full day))

-- a date that a name can have: a year from 1 to 9999, or a day of the calendar
abbrev pub IsDate : IriDate → Type 0
IsDate (Year year) = (1 ≤ year) × (year ≤ 9999)
IsDate (Full day) = IsDay day

-- how a date is spelled: the four digits of the year, or the day
unfoldable pub spelled_date : IriDate → List ℕ
spelled_date (Year year) =
    last_digit (year / 1000) ∷ last_digit (year / 100) ∷ last_digit (year / 10) ∷ last_digit year ∷ []
spelled_date (Full day) = day_text day

-- the day that stands for a date: 1 January of a year
abbrev pub first_day : IriDate → ℕ
first_day (Year year) = number_of year 1 1
first_day (Full day) = day

-- a day agrees with a date: it lies in the year that the date gives, or is the day
abbrev pub agrees_with : IriDate → ℕ → Bool
agrees_with (Year year) day = days.year_of day == year
agrees_with (Full named) day = day == named
