-- What a day spells is read as that day, and what is read as a day is what it spells.
use Rattle.std.proofs.Common.{◌≡◌, ℕ, zero, suc, ◌+◌, ◌-◌, ◌*◌, ◌/◌, ◌%◌, ◌<◌, ◌≤◌, inl, inr, Bool, true, false, ◌&&◌, ◌==◌, if◌then◌else◌, nat_le, List, [], ◌∷◌, length, get_or, drop, Option, Some, None, refl, sym, ap, ◌∙◌, arith, add-one, length-drop, pos}
use Rattle.std.specs.Prelude.{option_and_then}
use Rattle.std.proofs.lemmas.Bool.{cases_order, leb-true, leb-false, le-leb, eqb-true, and_parts}
use Rattle.std.proofs.lemmas.Option.{option_and_then_some, cond_some}
use Rattle.std.proofs.lemmas.List.{nil_from_length}
use Rattle.std.proofs.Math.Seq.{drop-cons}
use Rattle.jiff_core.specs.Calendar.{day_count, days_in_month, IsCivilDate}
use Rattle.jiff_core.proofs.SignedLemmas.{signed_arith}
use Rattle.jiff_core.proofs.CalendarLemmas.{day_count-end, day_count-next_year, day_count-next_month, day_count-last_of_year, day_count-day, days_in_month_bounds}
use Rattle.desk_base.specs.Days.{IsDay, number_of, is_date, day_on, digit_of, pair_of, has_dashes, day_of, last_by, year_of, month_of, place_of, last_digit, date_text, day_text}
use Rattle.desk_base.proofs.Calendar.{count_of_first, number_count, first_of, is_date-true, text_of_date, year_of_date}

-- k is the last place up to `last` that begins at n or before it
record IsLast (first : ℕ → ℕ) (last n k : ℕ) : Type 0 where
  some : 1 ≤ k
  within : k ≤ last
  begun : first k ≤ n
  not_over : k < last → n < first (k + 1)

over : (first : ℕ → ℕ) (last n k : ℕ) → IsLast first last n k → n < first (suc last) → n < first (k + 1)
over first last n k is beyond = elim (cases_order k last) [
  | inl same ↦ rw (same, add-one last) beyond
  | inr (inl lt) ↦ is.not_over lt
  | inr (inr gt) ↦ absurd (omega (arith, is.within))
]

last_by-last : (first : ℕ → ℕ) (last n : ℕ) → 1 ≤ last → first 1 ≤ n → IsLast first last n (last_by first last n)
unfolding last_by
last_by-last first zero n some begun = absurd (omega arith)
last_by-last first (suc zero) n some begun =
    rw (le-leb (first 1) n begun) (record { some = omega arith; within = omega arith; begun = begun; not_over = λ more. absurd (omega arith) })
last_by-last first (suc (suc last)) n some begun =
    by (last_by-last first (suc last) n (omega arith) begun) (nat_le (first (suc (suc last))) n) refl
  where
    by : IsLast first (suc last) n (last_by first (suc last) n) → (t : Bool) → nat_le (first (suc (suc last))) n ≡ t
        → IsLast first (suc (suc last)) n (if t then suc (suc last) else last_by first (suc last) n)
    by before true e = record { some = omega arith; within = omega arith; begun = leb-true (first (suc (suc last))) n e; not_over = λ more. absurd (omega arith) }
    by before false e = record {
      some = before.some;
      within = omega (arith, before.within);
      begun = before.begun;
      not_over = λ more. over first (suc last) n (last_by first (suc last) n) before (leb-false (first (suc (suc last))) n e);
    }

-- each day lies in the month of the year, at the place, that the definitions find
record IsPlaced (n y m d : ℕ) : Type 0 where
  after_0 : 1 ≤ y
  is_civil : IsCivilDate (pos y) m d
  same : number_of y m d ≡ n

-- a day of a year lies before the first day of the next
before_next_year : (n y : ℕ) → IsDay n → IsLast (λ year. number_of year 1 1) 9999 n y → n + 3652790 < day_count (pos (y + 1)) 1 1
before_next_year n y day year = elim (cases_order y 9999) [
  | inl same ↦ rw same (omega (arith, day_count-end, day.1))
  | inr (inl lt) ↦ omega (arith, year.not_over lt, number_count (y + 1) 1 1 (omega arith) (first_of (y + 1) 1 (omega arith) (omega arith) (omega arith)))
  | inr (inr gt) ↦ absurd (omega (arith, year.within))
]

-- December ends with the year
december : (y : ℕ) → day_count (pos (y + 1)) 1 1 ≡ day_count (pos y) 12 1 + 31
december y =
    omega (arith, day_count-next_year (pos y) (pos (y + 1)) (omega (arith, signed_arith)) (omega (arith, signed_arith)), day_count-last_of_year (pos y), day_count-day (pos y) 12 31 1 (omega arith) (omega arith))

within_month : (n y m : ℕ) → IsDay n → IsLast (λ year. number_of year 1 1) 9999 n y → IsLast (λ month. number_of y month 1) 12 n m → n + 3652790 < day_count (pos y) m 1 + days_in_month (pos y) m
within_month n y m day year month = elim (cases_order m 12) [
  | inl same ↦ rw same (omega (arith, before_next_year n y day year, december y))
  | inr (inl lt) ↦ omega (arith, month.not_over lt, number_count y (m + 1) 1 year.some (first_of y (m + 1) year.within (omega arith) (omega arith)), day_count-next_month (pos y) m month.some)
  | inr (inr gt) ↦ absurd (omega (arith, month.within))
]

-- the first days of the year and of the month, and the end of the month, as counts of days
placed_in : (n y m : ℕ) → IsDay n → IsLast (λ year. number_of year 1 1) 9999 n y → IsLast (λ month. number_of y month 1) 12 n m → IsPlaced n y m (n + 1 - number_of y m 1)
placed_in n y m day year month =
    let low = year.some in
    let top = year.within in
    let first = number_count y m 1 low (first_of y m top month.some month.within) in
    let begun = month.begun in
    let place = n + 1 - number_of y m 1 in
    let last : place ≤ days_in_month (pos y) m = omega (arith, within_month n y m day year month, first.0) in
    let civil : IsCivilDate (pos y) m place = ((first_of y m top month.some month.within).0, (month.some, month.within), (omega arith, last)) in
    record {
      after_0 = low;
      is_civil = civil;
      same = omega (arith, first.0, begun, (number_count y m place low civil).0, day_count-day (pos y) m place 1 (omega arith) (omega arith));
    }

placed : (n : ℕ) → IsDay n → IsPlaced n (year_of n) (month_of n) (place_of n)
unfolding year_of month_of place_of
placed n day =
    let start = number_count 1 1 1 (omega arith) (first_of 1 1 (omega arith) (omega arith) (omega arith)) in
    let year = last_by-last (λ year. number_of year 1 1) 9999 n (omega arith) (omega (arith, start.0, count_of_first, day.0)) in
    let month = last_by-last (λ month. number_of (year_of n) month 1) 12 n (omega arith) year.begun in
    placed_in n (year_of n) (month_of n) day year month

-- what a digit and a pair of digits are read as
digit_read : (n : ℕ) → digit_of (last_digit n) ≡ Some (n % 10)
digit_read n = rw (le-leb 48 (48 + n % 10) (omega arith), le-leb (48 + n % 10) 57 (omega arith)) (ap Some (omega arith))

pair_read : (a b : ℕ) → pair_of (last_digit a) (last_digit b) ≡ Some (10 * (a % 10) + b % 10)
unfolding pair_of
pair_read a b = rw (digit_read a, digit_read b) refl

two_digits : (n : ℕ) → n ≤ 99 → 10 * (n / 10 % 10) + n % 10 ≡ n
two_digits n small = omega arith

four_digits : (n : ℕ) → n ≤ 9999 → 100 * (10 * (n / 1000 % 10) + n / 100 % 10) + (10 * (n / 10 % 10) + n % 10) ≡ n
four_digits n small = omega arith

-- a date's text is read as its number
date_read : (y m d : ℕ) → 1 ≤ y → IsCivilDate (pos y) m d → day_of (date_text y m d) ≡ Some (number_of y m d)
unfolding day_of date_text day_on
date_read y m d low h =
    rw (
      pair_read (y / 1000) (y / 100),
      pair_read (y / 10) y,
      pair_read (m / 10) m,
      pair_read (d / 10) d,
      four_digits y (year_of_date y m d h),
      two_digits m (omega (arith, h.1.1)),
      two_digits d (omega (arith, h.2.1, days_in_month_bounds (pos y) m)),
      is_date-true y m d low h,
    ) refl

pub day_read : (n : ℕ) → IsDay n → day_of (day_text n) ≡ Some n
unfolding day_text
day_read n day = let p = placed n day in date_read (year_of n) (month_of n) (place_of n) p.after_0 p.is_civil ∙ ap Some p.same

-- a text of ten bytes, byte by byte
reads : List ℕ → ℕ → ℕ → List ℕ
reads text at zero = []
reads text at (suc n) = get_or text at 0 ∷ reads text (at + 1) n

reads_all : (text : List ℕ) (at n : ℕ) → at + n ≡ length text → drop at text ≡ reads text at n
unfolding reads
reads_all text at zero e = nil_from_length (drop at text) (omega (arith, length-drop at text))
reads_all text at (suc n) e =
    drop-cons text at 0 (omega arith) ∙ ap (λ rest. get_or text at 0 ∷ rest) (rw (← add-one at) (reads_all text (at + 1) n (omega arith)))

-- the bytes of two digits, by what they are worth
record ArePair (a b v : ℕ) : Type 0 where
  first : a ≡ last_digit (v / 10)
  second : b ≡ last_digit v
  small : v ≤ 99

digit_bytes : (b v : ℕ) → digit_of b ≡ Some v → (b ≡ 48 + v) × (v ≤ 9)
digit_bytes b v e =
    let test = cond_some (nat_le 48 b && nat_le b 57) (b - 48) v e in
    let parts = and_parts (nat_le 48 b) (nat_le b 57) test.0 in
    let low = leb-true 48 b parts.0 in
    let high = leb-true b 57 parts.1 in
    (omega (arith, test.1), omega (arith, test.1))

pair_bytes : (a b v : ℕ) → pair_of a b ≡ Some v → ArePair a b v
unfolding pair_of
pair_bytes a b v e =
    option_and_then_some (λ tens. option_and_then (λ ones. Some (10 * tens + ones)) (digit_of b)) (digit_of a) v e
    (λ tens ten rest. option_and_then_some (λ ones. Some (10 * tens + ones)) (digit_of b) v rest
    (λ ones one whole.
    let high = digit_bytes a tens ten in
    let low = digit_bytes b ones one in
    let worth : 10 * tens + ones ≡ v = cc in
    record { first = omega arith; second = omega arith; small = omega arith }))

if_some : {A : Type 0} (test : Bool) (o : Option A) (x : A) → (if test then o else None) ≡ Some x → (test ≡ true) × (o ≡ Some x)
if_some true o x e = (refl, e)
if_some false o x e = cc

date_parts : (y m d : ℕ) → is_date y m d ≡ true → (1 ≤ y) × IsCivilDate (pos y) m d
date_parts y m d e =
    let both = and_parts ((nat_le 1 y && nat_le y 9999) && (nat_le 1 m && nat_le m 12)) (nat_le 1 d && nat_le d (days_in_month (pos y) m)) e in
    let front = and_parts (nat_le 1 y && nat_le y 9999) (nat_le 1 m && nat_le m 12) both.0 in
    let year = and_parts (nat_le 1 y) (nat_le y 9999) front.0 in
    let month = and_parts (nat_le 1 m) (nat_le m 12) front.1 in
    let day = and_parts (nat_le 1 d) (nat_le d (days_in_month (pos y) m)) both.1 in
    let civil = first_of y m (leb-true y 9999 year.1) (leb-true 1 m month.0) (leb-true m 12 month.1) in
    (leb-true 1 y year.0, (civil.0, civil.1, (leb-true 1 d day.0, leb-true d (days_in_month (pos y) m) day.1)))

-- the ten bytes are those of the date that they were read as
date_bytes : (text : List ℕ) (c y m d : ℕ) → length text ≡ 10 → get_or text 4 0 ≡ 45 → get_or text 7 0 ≡ 45
    → ArePair (get_or text 0 0) (get_or text 1 0) c → ArePair (get_or text 2 0) (get_or text 3 0) y
    → ArePair (get_or text 5 0) (get_or text 6 0) m → ArePair (get_or text 8 0) (get_or text 9 0) d → text ≡ date_text (100 * c + y) m d
unfolding reads date_text
date_bytes text c y m d ten dash dash2 century year month day =
    let e0 : get_or text 0 0 ≡ last_digit ((100 * c + y) / 1000) = omega (arith, century.first, year.small) in
    let e1 : get_or text 1 0 ≡ last_digit ((100 * c + y) / 100) = omega (arith, century.second, year.small) in
    let e2 : get_or text 2 0 ≡ last_digit ((100 * c + y) / 10) = omega (arith, year.first, year.small) in
    let e3 : get_or text 3 0 ≡ last_digit (100 * c + y) = omega (arith, year.second, year.small) in
    reads_all text 0 10 (omega arith) ∙ rw (e0, e1, e2, e3, dash, month.first, month.second, dash2, day.first, day.second) refl

parts_spelled : (text : List ℕ) (c y m d n : ℕ) → text ≡ date_text (100 * c + y) m d → day_on (100 * c + y) m d ≡ Some n → IsDay n × (text ≡ day_text n)
unfolding day_on
parts_spelled text c y m d n same found =
    let test = cond_some (is_date (100 * c + y) m d) (number_of (100 * c + y) m d) n found in
    let date = date_parts (100 * c + y) m d test.0 in
    let number = number_count (100 * c + y) m d date.0 date.1 in
    (rw (← test.1) number.1, same ∙ sym (text_of_date (100 * c + y) m d date.0 date.1) ∙ ap day_text test.1)

pub day_spelled : (text : List ℕ) (n : ℕ) → day_of text ≡ Some n → IsDay n × (text ≡ day_text n)
unfolding day_of
day_spelled text n e =
    let begin = if_some (has_dashes text) _ n e in
    let test = and_parts (length text == 10 && get_or text 4 0 == 45) (get_or text 7 0 == 45) begin.0 in
    let front = and_parts (length text == 10) (get_or text 4 0 == 45) test.0 in
    let ten = eqb-true (length text) 10 front.0 in
    let dash = eqb-true (get_or text 4 0) 45 front.1 in
    let dash2 = eqb-true (get_or text 7 0) 45 test.1 in
    option_and_then_some _ _ n begin.1 (λ century c rest. option_and_then_some _ _ n rest (λ year y rest2.
    option_and_then_some _ _ n rest2 (λ month m rest3. option_and_then_some _ _ n rest3 (λ day d found.
    parts_spelled text century year month day n
    (date_bytes text century year month day ten dash dash2 (pair_bytes _ _ century c) (pair_bytes _ _ year y) (pair_bytes _ _ month m) (pair_bytes _ _ day d)) found))))
