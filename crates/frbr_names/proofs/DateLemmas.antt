-- A date is spelled as it is read, and read as it is spelled.
use Rattle.std.proofs.Common.{◌≡◌, ℕ, ◌+◌, ◌-◌, ◌*◌, ◌/◌, ◌%◌, ◌≤◌, Bool, true, false, ◌&&◌, ◌==◌, if◌then◌else◌, nat_le, List, [], ◌∷◌, length, get_or, Some, None, refl, sym, ap, ◌∙◌, subst, arith}
use Rattle.std.specs.Prelude.{option_and_then}
use Rattle.std.proofs.lemmas.Bool.{le-leb, leb-true, eqb-true, ne_eqb, eqb-false, and_parts}
use Rattle.std.proofs.lemmas.Option.{option_and_then_some, cond_some}
use Rattle.desk_base.specs.Days.{digit_of, pair_of, day_of, day_text, date_text, last_digit, year_of as year_of_day, month_of, place_of}
use Rattle.desk_base.proofs.DayLaws.{day_read, day_spelled}
use Rattle.frbr_names.specs.declared.date.IriDate.{IriDate}
use Rattle.frbr_names.specs.declared.date.IriDate.TheVariants.{Year, Full}
use Rattle.frbr_names.specs.Dates.{IsDate, year_of, date_of, spelled_date}
use Rattle.frbr_names.proofs.Slashes.{HasNoSlash}

-- none of the bytes is a `/`, byte by byte
NoSlashes : List ℕ → Type 0
NoSlashes [] = Unit {0}
NoSlashes (b ∷ bs) = (b ≡ 47 → ⊥) × NoSlashes bs

no_slashes : (bs : List ℕ) → NoSlashes bs → HasNoSlash bs
unfolding NoSlashes
no_slashes [] none = refl
no_slashes (b ∷ bs) none = rw (ne_eqb b 47 none.0) (no_slashes bs none.1)

digit_is_none : (n : ℕ) → last_digit n ≡ 47 → ⊥
digit_is_none n e = omega arith

year_no_slash : (y : ℕ) → NoSlashes (spelled_date (Year y))
unfolding NoSlashes spelled_date
year_no_slash y = (digit_is_none (y / 1000), (digit_is_none (y / 100), (digit_is_none (y / 10), (digit_is_none y, tt))))

day_no_slash : (y m d : ℕ) → NoSlashes (date_text y m d)
unfolding NoSlashes date_text
day_no_slash y m d = (
  digit_is_none (y / 1000),
  (
    digit_is_none (y / 100),
    (
      digit_is_none (y / 10),
      (
        digit_is_none y,
        (
          λ e. omega arith,
          (digit_is_none (m / 10), (digit_is_none m, (λ e. omega arith, (digit_is_none (d / 10), (digit_is_none d, tt))))),
        ),
      ),
    ),
  ),
)

full_no_slash : (n : ℕ) → NoSlashes (day_text n)
unfolding day_text
full_no_slash n = day_no_slash (year_of_day n) (month_of n) (place_of n)

full_spelled : (n : ℕ) → spelled_date (Full n) ≡ day_text n
unfolding spelled_date
full_spelled n = refl

-- no date has a `/`
pub date_no_slash : (d : IriDate) → HasNoSlash (spelled_date d)
date_no_slash (Year y) = no_slashes (spelled_date (Year y)) (year_no_slash y)
date_no_slash (Full n) = rw (full_spelled n) (no_slashes (day_text n) (full_no_slash n))

-- no day has one
pub day_text_no_slash : (n : ℕ) → HasNoSlash (day_text n)
day_text_no_slash n = no_slashes (day_text n) (full_no_slash n)

-- what a digit and a pair of digits are read as
digit_read : (n : ℕ) → digit_of (last_digit n) ≡ Some (n % 10)
digit_read n = rw (le-leb 48 (48 + n % 10) (omega arith), le-leb (48 + n % 10) 57 (omega arith)) (ap Some (omega arith))

pair_read : (a b : ℕ) → pair_of (last_digit a) (last_digit b) ≡ Some (10 * (a % 10) + b % 10)
unfolding pair_of
pair_read a b = rw (digit_read a, digit_read b) refl

four_digits : (n : ℕ) → n ≤ 9999 → 100 * (10 * (n / 1000 % 10) + n / 100 % 10) + (10 * (n / 10 % 10) + n % 10) ≡ n
four_digits n small = omega arith

year_read : (y : ℕ) → 1 ≤ y → y ≤ 9999 → year_of (spelled_date (Year y)) ≡ Some y
unfolding year_of spelled_date
year_read y low high =
    rw (pair_read (y / 1000) (y / 100), pair_read (y / 10) y, four_digits y high, ne_eqb y 0 (λ e. omega arith)) refl

pub day_is_long : (n : ℕ) → length (day_text n) ≡ 10
unfolding day_text date_text
day_is_long n = refl

day_date : (text : List ℕ) (n : ℕ) → length text ≡ 10 → day_of text ≡ Some n → date_of text ≡ Some (Full n)
unfolding date_of
day_date text n long is = rw (long, is) refl

year_date : (text : List ℕ) (y : ℕ) → length text ≡ 4 → year_of text ≡ Some y → date_of text ≡ Some (Year y)
unfolding date_of
year_date text y long is = rw (long, is) refl

year_is_short : (y : ℕ) → length (spelled_date (Year y)) ≡ 4
unfolding spelled_date
year_is_short y = refl

-- what a date spells is read as that date
pub date_read : (d : IriDate) → IsDate d → date_of (spelled_date d) ≡ Some d
date_read (Year y) is = year_date (spelled_date (Year y)) y (year_is_short y) (year_read y is.0 is.1)
date_read (Full n) is = ap date_of (full_spelled n) ∙ day_date (day_text n) n (day_is_long n) (day_read n is)

-- the bytes of two digits, by what they are worth
record ArePair (a b v : ℕ) : Type 0 where
  first : a ≡ last_digit (v / 10)
  second : b ≡ last_digit v
  small : v ≤ 99

digit_bytes : (b v : ℕ) → digit_of b ≡ Some v → (b ≡ 48 + v) × (v ≤ 9)
digit_bytes b v e =
    let test = cond_some (nat_le 48 b && nat_le b 57) (b - 48) v e in
    let parts = and_parts (nat_le 48 b) (nat_le b 57) test.0 in
    let low = leb-true 48 b parts.0 in
    let high = leb-true b 57 parts.1 in
    (omega (arith, test.1), omega (arith, test.1))

pair_bytes : (a b v : ℕ) → pair_of a b ≡ Some v → ArePair a b v
unfolding pair_of
pair_bytes a b v e =
    option_and_then_some (λ tens. option_and_then (λ ones. Some (10 * tens + ones)) (digit_of b)) (digit_of a) v e
    (λ tens ten rest. option_and_then_some (λ ones. Some (10 * tens + ones)) (digit_of b) v rest
    (λ ones one whole.
    let high = digit_bytes a tens ten in
    let low = digit_bytes b ones one in
    let worth : 10 * tens + ones ≡ v = cc in
    record { first = omega arith; second = omega arith; small = omega arith }))

four_bytes : (text : List ℕ) → length text ≡ 4 → text ≡ get_or text 0 0 ∷ get_or text 1 0 ∷ get_or text 2 0 ∷ get_or text 3 0 ∷ []
four_bytes [] e = absurd (omega arith)
four_bytes (a ∷ []) e = absurd (omega arith)
four_bytes (a ∷ b ∷ []) e = absurd (omega arith)
four_bytes (a ∷ b ∷ c ∷ []) e = absurd (omega arith)
four_bytes (a ∷ b ∷ c ∷ d ∷ []) e = refl
four_bytes (a ∷ b ∷ c ∷ d ∷ more ∷ rest) e = absurd (omega arith)

year_bytes : (text : List ℕ) (c v y : ℕ) → length text ≡ 4 → ArePair (get_or text 0 0) (get_or text 1 0) c → ArePair (get_or text 2 0) (get_or text 3 0) v
    → (if 100 * c + v == 0 then None else Some (100 * c + v)) ≡ Some y → IsDate (Year y) × (text ≡ spelled_date (Year y))
unfolding spelled_date
year_bytes text c v y four century year e = by (100 * c + v == 0) refl e
  where
    by : (t : Bool) → (100 * c + v == 0) ≡ t → (if t then None else Some (100 * c + v)) ≡ Some y → IsDate (Year y) × (text ≡ spelled_date (Year y))
    by true zero_year found = cc
    by false some found =
        let same : 100 * c + v ≡ y = cc in
        let low = eqb-false (100 * c + v) 0 some in
        let e0 : get_or text 0 0 ≡ last_digit (y / 1000) = omega (arith, century.first, year.small) in
        let e1 : get_or text 1 0 ≡ last_digit (y / 100) = omega (arith, century.second, year.small) in
        let e2 : get_or text 2 0 ≡ last_digit (y / 10) = omega (arith, year.first, year.small) in
        let e3 : get_or text 3 0 ≡ last_digit y = omega (arith, year.second, year.small) in
        ((omega arith, omega (arith, century.small, year.small)), four_bytes text four ∙ rw (e0, e1, e2, e3) refl)

year_spelled : (text : List ℕ) (y : ℕ) → length text ≡ 4 → year_of text ≡ Some y → IsDate (Year y) × (text ≡ spelled_date (Year y))
unfolding year_of
year_spelled text y four e =
    option_and_then_some _ _ y e (λ century c rest. option_and_then_some _ _ y rest (λ year v found.
    year_bytes text century year y four (pair_bytes _ _ century c) (pair_bytes _ _ year v) found))

-- what is read as a date is what that date spells
pub date_spelled : (text : List ℕ) (d : IriDate) → date_of text ≡ Some d → IsDate d × (text ≡ spelled_date d)
unfolding date_of
date_spelled text d e = by (length text == 4) refl e
  where
    by : (t : Bool) → (length text == 4) ≡ t
        → (if t then option_and_then (λ y. Some (Year y)) (year_of text) else option_and_then (λ n. Some (Full n)) (day_of text)) ≡ Some d
        → IsDate d × (text ≡ spelled_date d)
    by true four found =
        option_and_then_some (λ y. Some (Year y)) (year_of text) d found
        (λ y is same.
        let here : Year y ≡ d = cc in
        let P : IriDate → Type 0 = λ d. IsDate d × (text ≡ spelled_date d) in
        subst P here (year_spelled text y (eqb-true (length text) 4 four) is))
    by false other found =
        option_and_then_some (λ n. Some (Full n)) (day_of text) d found
        (λ n is same.
        let here : Full n ≡ d = cc in
        let P : IriDate → Type 0 = λ d. IsDate d × (text ≡ spelled_date d) in
        let spelled = day_spelled text n is in
        subst P here (spelled.0, spelled.1 ∙ sym (full_spelled n)))
