-- 1 January of a year, as it is spelled and read.
use Rattle.std.proofs.Common.{◌≡◌, ℕ, ◌≤◌, Some, sym, ap, ◌∙◌, subst, arith}
use Rattle.std.specs.Str.{IsUtf8}
use Rattle.desk_base.specs.Days.{day_of, number_of, date_text}
use Rattle.desk_base.proofs.Calendar.{number_count, first_of, text_of_date, text_ascii}
use Rattle.desk_base.proofs.DayLaws.{day_read}

pub first_utf8 : (y : ℕ) → 1 ≤ y → y ≤ 9999 → IsUtf8 (date_text y 1 1)
first_utf8 y low high = subst IsUtf8 (text_of_date y 1 1 low (first_of y 1 high (omega arith) (omega arith))) (text_ascii (number_of y 1 1))

pub first_read : (y : ℕ) → 1 ≤ y → y ≤ 9999 → day_of (date_text y 1 1) ≡ Some (number_of y 1 1)
first_read y low high =
    let civil = first_of y 1 high (omega arith) (omega arith) in
    sym (ap day_of (text_of_date y 1 1 low civil)) ∙ day_read (number_of y 1 1) (number_count y 1 1 low civil).1
