-- The numbers of dates after the year 0, by jiff_core's counts of days.
use Rattle.std.proofs.Common.{◌≡◌, List, [], ◌∷◌, inl, inr, Bool, true, false, if◌then◌else◌, nat_le, ℕ, zero, suc, ◌+◌, ◌<◌, ◌≤◌, refl, sym, ap, ◌∙◌, arith, ℤ, pos, negsuc, ◌+ℤ◌, ◌≤ℤ◌, unsigned_abs}
use Rattle.std.proofs.lemmas.Bool.{cases_order, leb-true, leb-false, le-leb}
use Rattle.std.proofs.lemmas.Int.{by_lt_z}
use Rattle.std.proofs.lemmas.Str.{IsUtf8-from_ascii}
use Rattle.std.proofs.lemmas.Str.Ascii.{IsAscii-nil, IsAscii-cons}
use Rattle.jiff_core.specs.declared.civil.date.Date.{Date}
use Rattle.jiff_core.specs.Calendar.{day_count, days_in_month, IsCivilDate}
use Rattle.jiff_core.specs.Date.{epoch_day}
use Rattle.jiff_core.proofs.SignedLemmas.{signed_arith}
use Rattle.jiff_core.proofs.CalendarLemmas.{days_from_civil-day_count, day_count_bounds, day_count-later_year, day_count-day_of_year, day_count-lt_year, day_count-lt_month, day_count-day, days_in_month_bounds}
use Rattle.jiff_core.proofs.MarchLemmas.{day_count-early}
use Rattle.jiff_core.proofs.DateLemmas.{civil}
use Rattle.std.specs.Str.{IsAscii, IsUtf8}
use Rattle.desk_base.specs.Days.{number_of, IsDay, is_date, last_by, year_of, month_of, place_of, date_text, day_text}

-- 0001-01-01 has this many days before it, from the first day of the year -10000 on
pub count_of_first : day_count (pos 1) 1 1 ≡ 3652791
count_of_first = day_count-early _ 10000 1 1 refl (omega arith) (omega arith) (omega arith)

-- no year after the year 0 begins earlier
first_of_year : (y : ℕ) → 1 ≤ y → 3652791 ≤ day_count (pos y) 1 1
first_of_year zero low = absurd (omega arith)
first_of_year (suc zero) low = omega (arith, count_of_first)
first_of_year (suc (suc k)) low =
    omega (arith, count_of_first, day_count-later_year (pos 1) (pos (suc (suc k))) (omega (arith, signed_arith)) (omega (arith, signed_arith)))

-- the number of a date, as a count of days
pub number_count : (y m d : ℕ) → 1 ≤ y → IsCivilDate (pos y) m d → (number_of y m d + 3652790 ≡ day_count (pos y) m d) × IsDay (number_of y m d)
unfolding number_of
number_count y m d low h =
    let first = first_of_year y low in
    let bounds = day_count_bounds (pos y) m d h in
    let place = day_count-day_of_year (pos y) m d h.2.0 in
    (omega (arith, count_of_first, h.2.0), (omega (arith, count_of_first, h.2.0), omega (arith, count_of_first)))

abs_positive : (z : ℤ) → pos 1 ≤ℤ z → (pos (unsigned_abs z) ≡ z) × (1 ≤ unsigned_abs z)
abs_positive (pos n) h = (refl, omega (arith, signed_arith))
abs_positive (negsuc n) h = absurd (omega (arith, signed_arith))

-- the same, by the days from -9999-01-01 on
pub number_days : (d : Date) (n : ℕ) → pos 1 ≤ℤ d.year → epoch_day d +ℤ pos 4371587 ≡ pos n → (number_of (unsigned_abs d.year) d.month d.day + 3652424 ≡ n) × IsDay (number_of (unsigned_abs d.year) d.month d.day)
number_days d n low e =
    let year = abs_positive d.year low in
    let here : IsCivilDate (pos (unsigned_abs d.year)) d.month d.day = rw year.0 (civil d) in
    let count = number_count (unsigned_abs d.year) d.month d.day year.1 here in
    let same = rw year.0 at count.0 in
    (omega (arith, signed_arith, days_from_civil-day_count d.year d.month d.day, same), count.1)

-- a date with a number lies after the year 0
pub year_after_0 : (d : Date) (n : ℕ) → 3652425 ≤ n → epoch_day d +ℤ pos 4371587 ≡ pos n → pos 1 ≤ℤ d.year
year_after_0 d n low e =
    by_lt_z d.year (pos 1)
    (λ lt. absurd (omega (arith, signed_arith, count_of_first, days_from_civil-day_count d.year d.month d.day, day_count-lt_year d.year d.month d.day (pos 1) 1 1 (civil d) (omega arith) lt)))
    (λ le. le)

-- the last place is the one whose first day is not after the day, where each later place begins after it
last_by-is : (first : ℕ → ℕ) (last k n : ℕ) → k ≤ last → 1 ≤ k → first k ≤ n → ((j : ℕ) → k < j → j ≤ last → n < first j) → last_by first last n ≡ k
unfolding last_by
last_by-is first zero k n le low at later = absurd (omega arith)
last_by-is first (suc last) k n le low at later =
    by (λ lt. last_by-is first last k n (omega arith) low at (λ j above below. later j above (omega arith))) (nat_le (first (suc last)) n) refl
  where
    by : (k < suc last → last_by first last n ≡ k) → (t : Bool) → nat_le (first (suc last)) n ≡ t → (if t then suc last else last_by first last n) ≡ k
    by before true e = elim (cases_order k (suc last)) [
      | inl same ↦ sym same
      | inr (inl lt) ↦ absurd (omega (arith, later (suc last) lt (omega arith), leb-true (first (suc last)) n e))
      | inr (inr gt) ↦ absurd (omega arith)
    ]
    by before false e = elim (cases_order k (suc last)) [
      | inl same ↦ absurd (omega (arith, leb-false (first (suc last)) n e, rw same at at))
      | inr (inl lt) ↦ before lt
      | inr (inr gt) ↦ absurd (omega arith)
    ]

pub first_of : (y m : ℕ) → y ≤ 9999 → 1 ≤ m → m ≤ 12 → IsCivilDate (pos y) m 1
first_of y m year low high = ((omega (arith, signed_arith), omega (arith, signed_arith)), (low, high), (omega arith, omega (arith, days_in_month_bounds (pos y) m)))

pub year_of_date : (y m d : ℕ) → IsCivilDate (pos y) m d → y ≤ 9999
year_of_date y m d h = let top = h.0.1 in omega (arith, signed_arith)

-- the year, the month and the place of a date's number are the date's own
pub year_is : (y m d : ℕ) → 1 ≤ y → IsCivilDate (pos y) m d → year_of (number_of y m d) ≡ y
unfolding year_of
year_is y m d low h =
    let top = year_of_date y m d h in
    let count = number_count y m d low h in
    last_by-is (λ year. number_of year 1 1) 9999 y (number_of y m d) top low
    (omega (arith, number_count y 1 1 low (first_of y 1 top (omega arith) (omega arith)), day_count-day_of_year (pos y) m d h.2.0, h.2.0))
    (λ j above below. omega (arith, number_count j 1 1 (omega arith) (first_of j 1 below (omega arith) (omega arith)), day_count-lt_year (pos y) m d (pos j) 1 1 h (omega arith) (omega (arith, signed_arith))))

pub month_is : (y m d : ℕ) → 1 ≤ y → IsCivilDate (pos y) m d → month_of (number_of y m d) ≡ m
unfolding month_of
month_is y m d low h =
    let top = year_of_date y m d h in
    let count = number_count y m d low h in
    rw (year_is y m d low h) (last_by-is (λ month. number_of y month 1) 12 m (number_of y m d) h.1.1 h.1.0
    (omega (arith, number_count y m 1 low (first_of y m top h.1.0 h.1.1), day_count-day (pos y) m d 1 h.2.0 (omega arith), h.2.0))
    (λ j above below. omega (arith, number_count y j 1 low (first_of y j top (omega arith) below), day_count-lt_month (pos y) m d j 1 h (omega arith) above)))

pub place_is : (y m d : ℕ) → 1 ≤ y → IsCivilDate (pos y) m d → place_of (number_of y m d) ≡ d
unfolding place_of
place_is y m d low h =
    let top = year_of_date y m d h in
    let count = number_count y m d low h in
    rw (year_is y m d low h, month_is y m d low h)
    (omega (arith, number_count y m 1 low (first_of y m top h.1.0 h.1.1), day_count-day (pos y) m d 1 h.2.0 (omega arith), h.2.0))

-- a date's number is spelled as the date
pub text_of_date : (y m d : ℕ) → 1 ≤ y → IsCivilDate (pos y) m d → day_text (number_of y m d) ≡ date_text y m d
unfolding day_text
text_of_date y m d low h = rw (year_is y m d low h, month_is y m d low h, place_is y m d low h) refl

-- the test of a date says what jiff_core's calendar has, after the year 0
pub is_date-true : (y m d : ℕ) → 1 ≤ y → IsCivilDate (pos y) m d → is_date y m d ≡ true
is_date-true y m d low h =
    rw (le-leb 1 y low, le-leb y 9999 (year_of_date y m d h), le-leb 1 m h.1.0, le-leb m 12 h.1.1, le-leb 1 d h.2.0, le-leb d (days_in_month (pos y) m) h.2.1) refl

-- the text of a number is that of the date which jiff finds for it
pub text_found : (d : Date) (n : ℕ) → 1 ≤ n → epoch_day d +ℤ pos 4371587 ≡ pos (n + 3652424) → date_text (unsigned_abs d.year) d.month d.day ≡ day_text n
text_found d n some e =
    let low = year_after_0 d (n + 3652424) (omega arith) e in
    let year = abs_positive d.year low in
    let here : IsCivilDate (pos (unsigned_abs d.year)) d.month d.day = rw year.0 (civil d) in
    let found = number_days d (n + 3652424) low e in
    let same : number_of (unsigned_abs d.year) d.month d.day ≡ n = omega (arith, found.0) in
    sym (text_of_date (unsigned_abs d.year) d.month d.day year.1 here) ∙ ap day_text same

-- the year that jiff finds for a number is that of the day
pub year_found : (d : Date) (n : ℕ) → 1 ≤ n → epoch_day d +ℤ pos 4371587 ≡ pos (n + 3652424) → unsigned_abs d.year ≡ year_of n
year_found d n some e =
    let low = year_after_0 d (n + 3652424) (omega arith) e in
    let year = abs_positive d.year low in
    let here : IsCivilDate (pos (unsigned_abs d.year)) d.month d.day = rw year.0 (civil d) in
    let found = number_days d (n + 3652424) low e in
    let same : number_of (unsigned_abs d.year) d.month d.day ≡ n = omega (arith, found.0) in
    sym (year_is (unsigned_abs d.year) d.month d.day year.1 here) ∙ ap year_of same

AreSmall : List ℕ → Type 0
AreSmall [] = Unit {0}
AreSmall (b ∷ bs) = (b < 128) × AreSmall bs

ascii_of : (bs : List ℕ) → AreSmall bs → IsAscii bs
unfolding AreSmall
ascii_of [] small = IsAscii-nil
ascii_of (b ∷ bs) small = IsAscii-cons b bs small.0 (ascii_of bs small.1)

date_small : (y m d : ℕ) → AreSmall (date_text y m d)
unfolding AreSmall date_text
date_small y m d = (omega arith, (omega arith, (omega arith, (omega arith, (omega arith, (omega arith, (omega arith, (omega arith, (omega arith, (omega arith, tt))))))))))

-- the text of a day is ASCII
pub text_ascii : (n : ℕ) → IsUtf8 (day_text n)
unfolding day_text
text_ascii n = IsUtf8-from_ascii (day_text n) (ascii_of (day_text n) (date_small (year_of n) (month_of n) (place_of n)))
