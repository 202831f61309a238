-- What the rules of parts say of their bytes: no part has a `/`, and no date is a word.
use Rattle.std.proofs.Common.{◌≡◌, ℕ, ◌+◌, ◌<◌, ◌/◌, ◌%◌, Bool, true, false, not, ◌&&◌, ◌==◌, nat_le, List, [], ◌∷◌, length, refl, sym, ap, ◌∙◌, inl, inr, arith}
use Rattle.std.specs.List.{list_all}
use Rattle.std.specs.Char.{is_ascii_lowercase, is_ascii_alphabetic}
use Rattle.std.proofs.lemmas.Bool.{and_parts, and_from, cases_eq, ne_eqb, leb-true, lt-leb, both_ways}
use Rattle.desk_base.specs.Days.{day_text, date_text, last_digit, year_of}
use Rattle.frbr_names.specs.declared.date.IriDate.{IriDate}
use Rattle.frbr_names.specs.declared.date.IriDate.TheVariants.{Year, Full}
use Rattle.frbr_names.specs.Parts.{is_slash}
use Rattle.frbr_names.specs.Rules.{is_lowercase_or_digit, is_name_byte, is_subdivision, is_jurisdiction, begins_with_letter, is_word, is_number}
use Rattle.frbr_names.specs.Dates.{spelled_date}
use Rattle.frbr_names.proofs.Slashes.{HasNoSlash}

-- a byte of a rule that some byte breaks is not that byte
not_byte : (s : ℕ) (p : ℕ → Bool) (b : ℕ) → p s ≡ false → p b ≡ true → not (b == s) ≡ true
not_byte s p b stop passes = elim (cases_eq b s) [
  | inl same ↦ absurd (both_ways (p s) stop (ap p (sym same) ∙ passes))
  | inr other ↦ rw (ne_eqb b s other) refl
]

pub all_not_byte : (s : ℕ) (p : ℕ → Bool) (bs : List ℕ) → p s ≡ false → list_all p bs ≡ true → list_all (λ b. not (b == s)) bs ≡ true
all_not_byte s p [] stop all = refl
all_not_byte s p (b ∷ bs) stop all =
    let parts = and_parts (p b) (list_all p bs) all in
    and_from (not (b == s)) (list_all (λ b. not (b == s)) bs) (not_byte s p b stop parts.0) (all_not_byte s p bs stop parts.1)

pub word_no_slash : (bs : List ℕ) → is_word bs ≡ true → HasNoSlash bs
unfolding is_word
word_no_slash bs is =
    all_not_byte 47 is_name_byte bs refl (and_parts (begins_with_letter bs && nat_le (length bs) 32) (list_all is_name_byte bs) is).1

pub number_no_slash : (bs : List ℕ) → is_number bs ≡ true → HasNoSlash bs
unfolding is_number
number_no_slash bs is =
    all_not_byte 47 is_name_byte bs refl (and_parts (nat_le 1 (length bs) && nat_le (length bs) 64) (list_all is_name_byte bs) is).1

pub number_is_some : (bs : List ℕ) → is_number bs ≡ true → 0 < length bs
unfolding is_number
number_is_some bs is =
    let front = and_parts (nat_le 1 (length bs) && nat_le (length bs) 64) (list_all is_name_byte bs) is in
    let low = and_parts (nat_le 1 (length bs)) (nat_le (length bs) 64) front.0 in
    omega (arith, leb-true 1 (length bs) low.0)

subdivision_no_slash : (bs : List ℕ) → is_subdivision bs ≡ true → HasNoSlash bs
unfolding is_subdivision
subdivision_no_slash [] is = refl
subdivision_no_slash (dash ∷ rest) is =
    let parts = and_parts (dash == 45 && nat_le 1 (length rest) && nat_le (length rest) 8) (list_all is_lowercase_or_digit rest) is in
    let bounds = and_parts (dash == 45 && nat_le 1 (length rest)) (nat_le (length rest) 8) parts.0 in
    let front = and_parts (dash == 45) (nat_le 1 (length rest)) bounds.0 in
    and_from (not (is_slash dash)) (list_all (λ b. not (is_slash b)) rest)
    (not_byte 47 (λ b. b == 45) dash refl front.0) (all_not_byte 47 is_lowercase_or_digit rest refl parts.1)

pub jurisdiction_no_slash : (bs : List ℕ) → is_jurisdiction bs ≡ true → HasNoSlash bs
unfolding is_jurisdiction
jurisdiction_no_slash [] is = cc
jurisdiction_no_slash (first ∷ []) is = cc
jurisdiction_no_slash (first ∷ second ∷ rest) is =
    let parts = and_parts (is_ascii_lowercase first && is_ascii_lowercase second) (is_subdivision rest) is in
    let letters = and_parts (is_ascii_lowercase first) (is_ascii_lowercase second) parts.0 in
    and_from (not (is_slash first)) (list_all (λ b. not (is_slash b)) (second ∷ rest)) (not_byte 47 is_ascii_lowercase first refl letters.0)
    (and_from (not (is_slash second)) (list_all (λ b. not (is_slash b)) rest) (not_byte 47 is_ascii_lowercase second refl letters.1)
    (subdivision_no_slash rest parts.1))

-- a digit is no letter
digit_no_letter : (n : ℕ) → is_ascii_alphabetic (last_digit n) ≡ false
digit_no_letter n = rw (lt-leb 65 (48 + n % 10) (omega arith), lt-leb 97 (48 + n % 10) (omega arith)) refl

no_word : (bs : List ℕ) → begins_with_letter bs ≡ false → is_word bs ≡ false
unfolding is_word
no_word bs other = rw other refl

date_no_letter : (d : IriDate) → begins_with_letter (spelled_date d) ≡ false
unfolding begins_with_letter spelled_date day_text date_text
date_no_letter (Year y) = digit_no_letter (y / 1000)
date_no_letter (Full n) = digit_no_letter (year_of n / 1000)

-- no date is a word
pub date_no_word : (d : IriDate) → is_word (spelled_date d) ≡ false
date_no_word d = no_word (spelled_date d) (date_no_letter d)
