-- The names of the generated register are read as themselves, and the nums of its sections are nums.
use Rattle.std.proofs.Common.{◌≡◌, ◌∙◌, sym, ap, refl, Ok, ℕ, ◌+◌, ◌%◌, ◌^◌, ◌<◌, ◌≤◌, true, List, [], ◌∷◌, ◌++◌, length, Some, arith}
use Rattle.std.specs.Fmt.{decimal}
use Rattle.std.specs.List.{list_all}
use Rattle.std.proofs.lemmas.Bool.{and_from, and_parts}
use Rattle.std.proofs.lemmas.Bool.Decides.{nat_tests}
use Rattle.std.proofs.lemmas.Fmt.{decimal_by_steps, decimal_nonempty, length-decimal-le}
use Rattle.desk_base.specs.Days.{day_of, day_on, pair_of, number_of}
use Rattle.jiff_core.specs.Calendar.{day_count, days_of_months, days_of_years}
use Rattle.eid_paths.specs.Nums.{is_num_byte, num_of}
use Rattle.frbr_names.specs.Dates.{date_of, year_of}
use Rattle.frbr_names.specs.Parts.{after_front, behind_part, part_of}
use Rattle.frbr_names.specs.Rules.{begins_with_letter, is_jurisdiction, is_number, is_subdivision, is_word}
use Rattle.frbr_names.specs.Works.{Work, behind_word, front_of, work_of}
use Rattle.law_generator.specs.Acts.{work}
use Rattle.law_generator.specs.Drawn.{source_work}
use Rattle.law_generator.specs.Named.{NamesWork, text_read}

-- the work that is read of a text that names one has that text
pub same_text : (text : List ℕ) (found : Work) → NamesWork text → work_of text ≡ Ok found → found.text ≡ text
same_text text found names read = some-injective (sym (ap text_read read) ∙ names)
  where
    some-injective : {a b : List ℕ} → Some a ≡ Some b → a ≡ b
    some-injective same = cc

pub work_is_read : text_read (work_of work) ≡ Some work
unfolding work work_of front_of behind_word after_front behind_part part_of date_of day_of day_on pair_of number_of day_count days_of_years days_of_months year_of begins_with_letter is_jurisdiction is_number is_subdivision is_word
work_is_read = refl

pub source_is_read : text_read (work_of source_work) ≡ Some source_work
unfolding source_work work_of front_of behind_word after_front behind_part part_of date_of day_of day_on pair_of number_of day_count days_of_years days_of_months year_of begins_with_letter is_jurisdiction is_number is_subdivision is_word
source_is_read = refl

all_of_both : (xs ys : List ℕ) → list_all is_num_byte xs ≡ true → list_all is_num_byte ys ≡ true → list_all is_num_byte (xs ++ ys) ≡ true
all_of_both [] ys a b = b
all_of_both (x ∷ xs) ys a b = let (first, later) = and_parts (is_num_byte x) (list_all is_num_byte xs) a in and_from _ _ first (all_of_both xs ys later b)

digits_are : (n : ℕ) → n < 2 ^ 64 → list_all is_num_byte (decimal n) ≡ true
digits_are = decimal_by_steps (λ n ds. list_all is_num_byte ds ≡ true)
    (λ n small. and_from _ _ (digit_is n small) refl)
    (λ n ds some before. all_of_both ds _ before (and_from _ _ (last_is n) refl))
  where
    digit_is : (n : ℕ) → n < 10 → is_num_byte (48 + n) ≡ true
    digit_is n small = grind (arith, nat_tests)

    last_is : (n : ℕ) → is_num_byte (48 + n % 10) ≡ true
    last_is n = grind (arith, nat_tests)

-- what a number below 100 spells is a num
pub num_is_read : (n : ℕ) → n < 100 → num_of (decimal n) ≡ Some (decimal n)
num_is_read n small =
    let digits = digits_are n (omega arith) in
    let some : 0 < length (decimal n) = decimal_nonempty n (omega arith) in
    let few : length (decimal n) ≤ 2 = length-decimal-le 2 n (omega arith) (omega arith) (omega arith) in
    grind (arith, nat_tests)
