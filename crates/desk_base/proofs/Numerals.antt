-- What a text of decimal digits is parsed to.
use Rattle.std.proofs.Common.{◌≡◌, ◌≤◌, ◌<◌, ◌^◌, ◌∙◌, ◌⊎◌, inl, inr, leb, nat_le, ℕ, zero, suc, Bool, true, false, if◌then◌else◌, List, length, get_or, Some, None, Result, Ok, Err, refl, ap, sym, arith, rules}
use Rattle.std.proofs.lemmas.Fmt.{decimal_is_IsNumeral, decimal-digits_value, first_decimal, length-decimal-le}
use Rattle.std.specs.Fmt.{decimal}
use Rattle.std.proofs.lemmas.Bool.Decides.{nat_tests, leb_tells}
use Rattle.std.proofs.lemmas.Str.Parse.{IsNumeralModel, numerals_by_value, parse_digits}
use Rattle.std.proofs.lemmas.Option.{cond_some, none-some}
use Rattle.std.specs.Char.{is_ascii_digit}
use Rattle.std.specs.List.{list_all}
use Rattle.std.specs.Result.{OkIff, result_ok}
use Rattle.std.specs.Str.Parse.{ParsesUnsigned, digits_value}
use Rattle.desk_base.specs.Decimals.{is_decimal, up_to, decimal_up_to}

-- texts of digits, as std reads them
pub own : IsNumeralModel (λ ds. list_all is_ascii_digit ds ≡ true) (digits_value 10)
own = numerals_by_value _ (search rules)

-- a number within a limit, and one beyond it
pub up_to-within : (most n : ℕ) → n ≤ most → up_to most n ≡ Some n
up_to-within most n within = grind (arith, nat_tests)

pub up_to-beyond : (most n : ℕ) → most < n → up_to most n ≡ None
up_to-beyond most n beyond = grind (arith, nat_tests)

-- a decimal text has digits alone, and at least one
pub digits_of-decimal : (text : List ℕ) → is_decimal text ≡ true → list_all is_ascii_digit text ≡ true
digits_of-decimal text decimal = grind arith

pub length_of-decimal : (text : List ℕ) → is_decimal text ≡ true → 1 ≤ length text
length_of-decimal text decimal = grind (arith, nat_tests)

-- the number of a text of digits that is not parsed is beyond 64 bits
pub up_to-refused : (n v : ℕ) → 1 ≤ n → ¬ ((0 < n) × (v < 18446744073709551616)) → up_to 18446744073709551615 v ≡ None
up_to-refused n v some refused = by (leb_tells v 18446744073709551615)
  where
    by : ((leb v 18446744073709551615 ≡ true) × (v ≤ 18446744073709551615)) ⊎ ((leb v 18446744073709551615 ≡ false) × (18446744073709551615 < v)) → up_to 18446744073709551615 v ≡ None
    by (inl within) = absurd (refused (some, omega (arith, within.1)))
    by (inr beyond) = up_to-beyond 18446744073709551615 v beyond.1

-- what is parsed of some digits is their number, if that has 64 bits
pub parsed-digits : {E : Type 0} (text : List ℕ) (r : Result ℕ E) → 1 ≤ length text → OkIff r ((0 < length text) × (digits_value 10 text < 18446744073709551616)) (digits_value 10 text)
    → result_ok r ≡ up_to 18446744073709551615 (digits_value 10 text)
parsed-digits text (Ok n) some parsed = ap Some parsed.1 ∙ sym (up_to-within 18446744073709551615 (digits_value 10 text) (omega (arith, parsed.0.1)))
parsed-digits text (Err e) some refused = sym (up_to-refused (length text) (digits_value 10 text) some refused)

-- a decimal text is parsed to its number, if that has 64 bits
pub parsed-decimal : {E : Type 0} (text : List ℕ) (r : Result ℕ E) → is_decimal text ≡ true → ParsesUnsigned 64 10 text r → result_ok r ≡ up_to 18446744073709551615 (digits_value 10 text)
parsed-decimal text r decimal h = parsed-digits text r (length_of-decimal text decimal) (parse_digits own 64 text r h (digits_of-decimal text decimal))

-- what a number spells is decimal
spelled_is_decimal : (n : ℕ) → n < 2 ^ 64 → is_decimal (decimal n) ≡ true
spelled_is_decimal zero small =
    let numeral = decimal_is_IsNumeral zero small in
    let digits : list_all is_ascii_digit (decimal zero) ≡ true = own.from (decimal zero) numeral.0.1 in
    let one : length (decimal zero) ≡ 1 = omega (arith, numeral.0.0, length-decimal-le 1 zero (omega arith) (omega arith) small) in
    grind (arith, nat_tests)
spelled_is_decimal (suc n) small =
    let numeral = decimal_is_IsNumeral (suc n) small in
    let digits : list_all is_ascii_digit (decimal (suc n)) ≡ true = own.from (decimal (suc n)) numeral.0.1 in
    let some : 0 < length (decimal (suc n)) = numeral.0.0 in
    let first : 48 < get_or (decimal (suc n)) 0 0 = first_decimal (suc n) (omega arith) small in
    grind (arith, nat_tests)

-- what a number spells is read as that number
pub number_read : (most n : ℕ) → n ≤ most → n < 2 ^ 64 → decimal_up_to most (decimal n) ≡ Some n
number_read most n within small =
    rw (spelled_is_decimal n small, (decimal_is_IsNumeral n small).1) (up_to-within most n within)

first_of-decimal : (text : List ℕ) → is_decimal text ≡ true → get_or text 0 0 ≡ 48 → length text ≡ 1
first_of-decimal text is zero_first = grind (arith, nat_tests)

-- what is read as a number is what that number spells
pub number_spelled : (most n : ℕ) (text : List ℕ) → n < 2 ^ 64 → decimal_up_to most text ≡ Some n → text ≡ decimal n
number_spelled most n text small found = by (is_decimal text) refl found
  where
    by : (t : Bool) → is_decimal text ≡ t → (if t then up_to most (digits_value 10 text) else None) ≡ Some n → text ≡ decimal n
    by false is same = absurd (none-some n same)
    by true is same =
        let value : digits_value 10 text ≡ n = (cond_some (nat_le (digits_value 10 text) most) (digits_value 10 text) n same).1 in
        sym (decimal-digits_value own text (digits_of-decimal text is) (length_of-decimal text is) (first_of-decimal text is) (omega (arith, value))) ∙ ap decimal value
