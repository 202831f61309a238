use Rattle.std.proofs.Common.{arith, pos, refl}
use Rattle.jiff_core.proofs.CalendarLemmas.{day_count-epoch, day_count-end, day_count-next_year, day_count-last_of_year}
use Rattle.jiff_core.proofs.SignedLemmas.{signed_arith}
use Rattle.desk_base.specs.Days.{number_of}
use Rattle.desk_base.proofs.Calendar.{count_of_first}
use Rattle.desk_base.proofs.laws.days_are_counted_from_first.Goals as goal

pub returns-clause-first : goal.returns-clause-first
unfolding number_of
returns-clause-first c = omega (arith, count_of_first)

pub returns-clause-epoch : goal.returns-clause-epoch
unfolding number_of
returns-clause-epoch c = omega (arith, count_of_first, day_count-epoch)

pub returns-clause-last : goal.returns-clause-last
unfolding number_of
returns-clause-last c =
    omega (arith, count_of_first, day_count-end, day_count-last_of_year (pos 9999), day_count-next_year (pos 9999) (pos 10000) (omega (arith, signed_arith)) refl)
