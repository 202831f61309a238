-- Days, their numbers, and how they are spelled.
use Rattle.std.specs.Prelude.{ℕ, zero, suc, ◌+◌, ◌-◌, ◌*◌, ◌/◌, ◌%◌, ◌≤◌, min, pos, Bool, ◌&&◌, ◌==◌, nat_le, if◌then◌else◌, List, [], ◌∷◌, length, get_or, Option, Some, None, option_and_then}
use Rattle.jiff_core.specs.Calendar.{day_count, days_in_month}

-- the number of a day from 0001-01-01 to 9999-12-31
abbrev pub IsDay : ℕ → Type 0
IsDay n = (1 ≤ n) × (n ≤ 3652059)

-- the day on which so many seconds have gone by since 1970-01-01 began; after 9999-12-31 it is that day still
abbrev pub day_since_1970 : ℕ → ℕ
day_since_1970 seconds = min (719163 + seconds / 86400) 3652059

-- the number of a date: how many days there are from 0001-01-01 to it, both included
unfoldable pub number_of : ℕ → ℕ → ℕ → ℕ
number_of year month day = day_count (pos year) month day + 1 - day_count (pos 1) 1 1

-- the calendar has this year, month and day, and the year has four digits and is not 0
abbrev pub is_date : ℕ → ℕ → ℕ → Bool
is_date year month day =
    (nat_le 1 year && nat_le year 9999) && (nat_le 1 month && nat_le month 12)
    && (nat_le 1 day && nat_le day (days_in_month (pos year) month))

-- the number of the day that a year, a month and a day of the month name, if the calendar has it
unfoldable pub day_on : ℕ → ℕ → ℕ → Option ℕ
day_on year month day = if is_date year month day then Some (number_of year month day) else None

infixl 10 ◌>>=◌
abbrev ◌>>=◌ : {A B : Type 0} → Option A → (A → Option B) → Option B
o >>= f = option_and_then f o

-- what a digit is worth
abbrev pub digit_of : ℕ → Option ℕ
digit_of byte = if nat_le 48 byte && nat_le byte 57 then Some (byte - 48) else None

-- what two digits are worth
unfoldable pub pair_of : ℕ → ℕ → Option ℕ
pair_of a b = do
  tens ← digit_of a
  ones ← digit_of b
  Some (10 * tens + ones)

-- a text has the length of a day's, and its two dashes
abbrev pub has_dashes : List ℕ → Bool
has_dashes text = length text == 10 && get_or text 4 0 == 45 && get_or text 7 0 == 45

-- the number of the day that a text spells, which is of ten bytes, YYYY-MM-DD
unfoldable pub day_of : List ℕ → Option ℕ
day_of text = if has_dashes text then (do
  century ← pair_of (get_or text 0 0) (get_or text 1 0)
  year ← pair_of (get_or text 2 0) (get_or text 3 0)
  month ← pair_of (get_or text 5 0) (get_or text 6 0)
  day ← pair_of (get_or text 8 0) (get_or text 9 0)
  day_on (100 * century + year) month day) else None

-- the last place up to `last` whose first day is not after the day n, or else 0
unfoldable pub last_by : (ℕ → ℕ) → ℕ → ℕ → ℕ
last_by first zero n = 0
last_by first (suc last) n = if nat_le (first (suc last)) n then suc last else last_by first last n

-- the year in which a day lies
unfoldable pub year_of : ℕ → ℕ
year_of n = last_by (λ year. number_of year 1 1) 9999 n

-- the month in which a day lies
unfoldable pub month_of : ℕ → ℕ
month_of n = last_by (λ month. number_of (year_of n) month 1) 12 n

-- a day's place in its month, from 1
unfoldable pub place_of : ℕ → ℕ
place_of n = n + 1 - number_of (year_of n) (month_of n) 1

-- the last decimal digit of a number, as it is printed
abbrev pub last_digit : ℕ → ℕ
last_digit n = 48 + n % 10

-- the ten bytes YYYY-MM-DD of a date
unfoldable pub date_text : ℕ → ℕ → ℕ → List ℕ
date_text year month day =
    last_digit (year / 1000) ∷ last_digit (year / 100) ∷ last_digit (year / 10) ∷ last_digit year ∷ 45
    ∷ last_digit (month / 10) ∷ last_digit month ∷ 45 ∷ last_digit (day / 10) ∷ last_digit day ∷ []

-- the ten bytes YYYY-MM-DD of a day
unfoldable pub day_text : ℕ → List ℕ
day_text n = date_text (year_of n) (month_of n) (place_of n)
