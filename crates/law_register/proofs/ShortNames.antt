-- The IRI of a work has 162 bytes at most.
use Rattle.std.proofs.Common.{◌≡◌, sym, ap, ℕ, ◌+◌, ◌*◌, ◌≤◌, nat_le, true, ◌==◌, ◌&&◌, List, [], ◌∷◌, length, Some, Ok, Err, refl, subst, arith}
use Rattle.std.proofs.lemmas.List.{length-append}
use Rattle.std.proofs.lemmas.Bool.Decides.{nat_tests}
use Rattle.std.specs.List.{list_all}
use Rattle.std.specs.Char.{is_ascii_lowercase}
use Rattle.law_register.proofs.Puts.{left_true, right_true}
use Rattle.frbr_names.specs.Dates.{spelled_date}
use Rattle.frbr_names.specs.Rules.{is_lowercase_or_digit, is_name_byte, begins_with_letter, is_subdivision, is_jurisdiction, is_word, is_number}
use Rattle.frbr_names.specs.Reads.{Read}
use Rattle.frbr_names.specs.Works.{Work, WorkParts, KeepRules, words_text, front_text, work_text, work_of, date_read, date_named}
use Rattle.frbr_names.specs.declared.date.IriDate.{IriDate}
use Rattle.frbr_names.specs.declared.date.IriDate.TheVariants.{Year, Full}
use Rattle.frbr_names.proofs.DateLemmas.{day_is_long}
use Rattle.frbr_names.proofs.WorkLemmas.{text_is, work_spelled}

at_most : (n m : ℕ) → nat_le n m ≡ true → n ≤ m
at_most n m h = grind (arith, nat_tests)

word_short : (w : List ℕ) → is_word w ≡ true → length w ≤ 32
unfolding is_word
word_short w h =
    at_most (length w) 32 (right_true (begins_with_letter w) (nat_le (length w) 32)
    (left_true (begins_with_letter w && nat_le (length w) 32) (list_all is_name_byte w) h))

number_short : (n : List ℕ) → is_number n ≡ true → length n ≤ 64
unfolding is_number
number_short n h =
    at_most (length n) 64 (right_true (nat_le 1 (length n)) (nat_le (length n) 64)
    (left_true (nat_le 1 (length n) && nat_le (length n) 64) (list_all is_name_byte n) h))

subdivision_short : (s : List ℕ) → is_subdivision s ≡ true → length s ≤ 9
unfolding is_subdivision
subdivision_short [] h = omega arith
subdivision_short (dash ∷ rest) h =
    let few : length rest ≤ 8 = at_most (length rest) 8 (right_true (dash == 45 && nat_le 1 (length rest)) (nat_le (length rest) 8)
    (left_true (dash == 45 && nat_le 1 (length rest) && nat_le (length rest) 8) (list_all is_lowercase_or_digit rest) h)) in
    omega arith

jurisdiction_short : (j : List ℕ) → is_jurisdiction j ≡ true → length j ≤ 11
unfolding is_jurisdiction
jurisdiction_short [] h = omega arith
jurisdiction_short (first ∷ []) h = omega arith
jurisdiction_short (first ∷ second ∷ rest) h =
    let few : length rest ≤ 9 = subdivision_short rest (right_true (is_ascii_lowercase first && is_ascii_lowercase second) (is_subdivision rest) h) in
    omega arith

words_short : (ws : List (List ℕ)) → list_all is_word ws ≡ true → length (words_text ws) ≤ 33 * length ws
unfolding words_text
words_short [] h = omega arith
words_short (w ∷ ws) h =
    let one : length w ≤ 32 = word_short w (left_true (is_word w) (list_all is_word ws) h) in
    let rest : length (words_text ws) ≤ 33 * length ws = words_short ws (right_true (is_word w) (list_all is_word ws) h) in
    omega (arith, length-append w (47 ∷ words_text ws))

date_short : (d : IriDate) → length (spelled_date d) ≤ 10
unfolding spelled_date
date_short (Year year) = omega arith
date_short (Full day) = omega (arith, day_is_long day)

front_short : (j : List ℕ) (ws : List (List ℕ)) (d : IriDate) → length (front_text j ws d) ≡ 11 + length j + length (words_text ws) + length (spelled_date d)
unfolding front_text
front_short j ws d = simp length-append (omega arith)

parts_short : (parts : WorkParts) → KeepRules parts → length (work_text parts) ≤ 162
parts_short parts kept =
    let j = jurisdiction_short parts.jurisdiction kept.jurisdiction in
    let ws = words_short parts.words kept.words in
    let few = kept.few_words in
    let d = date_short parts.date in
    let n = number_short parts.number kept.number in
    let front = front_short parts.jurisdiction parts.words parts.date in
    omega (arith, ap length (text_is parts), length-append (front_text parts.jurisdiction parts.words parts.date) parts.number, j, ws, few, d, n, front)

pub short_work : (text : List ℕ) (date : IriDate) → date_named text ≡ Some date → length text ≤ 162
unfolding date_named
short_work text date e = by (work_of text) refl e
  where
    by : (r : Read Work) → work_of text ≡ r → date_read r ≡ Some date → length text ≤ 162
    by (Ok work) is found =
        let spells = work_spelled text work is in
        let P : List ℕ → Type 0 = λ t. length t ≤ 162 in
        subst P (sym spells.spelled) (parts_short spells.parts spells.kept)
    by (Err fault) is found = cc
