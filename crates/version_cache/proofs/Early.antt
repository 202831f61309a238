-- Tables that are right on each day of the calendar before a touched one are so on the day 0, on which no row begins and no text changes.
use Rattle.std.proofs.Common.{zero, suc, ◌≡◌, ◌∙◌, sym, ap, ℕ, ◌<◌, ◌≤◌, false, nat_le, [], Option, Some, None, arith}
use Rattle.std.proofs.lemmas.Bool.Decides.{nat_tests}
use Rattle.law_register.specs.declared.answer.question.Reading.{Reading}
use Rattle.law_register.specs.declared.answer.question.Reading.TheVariants.{Force, Efficacy}
use Rattle.law_register.specs.declared.register.known.Known.{Known}
use Rattle.law_register.specs.Answer.Breakpoints.{breakpoints}
use Rattle.law_register.specs.Answer.Replay.{as_enacted, replay_on}
use Rattle.version_cache.specs.Agreement.{IsBefore, IsEarly}
use Rattle.version_cache.specs.Days.{last_until}
use Rattle.version_cache.specs.Steady.{CarrySteadily}
use Rattle.version_cache.specs.Tables.{IsRightEarly, IsRightUntil, TableValue, last_version, rows_until, version_on}
use Rattle.version_cache.specs.Works.{AreRightEarly, AreRightUntil, WorkValue, table_in}
use Rattle.version_cache.proofs.Right.{replay_by_last, version_or}

pub not_before : (d : ℕ) → 1 ≤ d → nat_le d 0 ≡ false
not_before d h = grind (arith, nat_tests)

module _ (known : Known) (steady : CarrySteadily known) (no_day : last_until 0 (breakpoints known) ≡ None) where
  before_all : (table : TableValue) (touched : ℕ) → IsRightEarly known (Some touched) table → rows_until 0 table.rows ≡ []
      → (day : ℕ) → day < touched → version_on table day ≡ replay_on known table.reading day
  before_all table touched early no_row zero less =
      ap (last_version table.enacted) no_row ∙ early.enacted
      ∙ sym (replay_by_last known table.reading steady zero ∙ ap (version_or known table.reading (as_enacted known.act)) no_day)
  before_all table touched early no_row (suc d) less = early.versions (suc d) (omega arith, less)

  table_right : (until : Option ℕ) (table : TableValue) → IsRightEarly known until table → rows_until 0 table.rows ≡ [] → IsRightUntil known until table
  table_right None table early no_row = record { enacted = early.enacted; versions = λ day. early.versions day tt }
  table_right (Some touched) table early no_row = record { enacted = early.enacted; versions = before_all table touched early no_row }

  pub early_until : (until : Option ℕ) (work : WorkValue) → AreRightEarly known until work → rows_until 0 work.force.rows ≡ [] → rows_until 0 work.efficacy.rows ≡ []
      → AreRightUntil known until work
  early_until until work early force efficacy = record { readings = early.readings; right = by }
    where
      by : (reading : Reading) → IsRightUntil known until (table_in reading work)
      by Force = table_right until work.force (early.right Force) force
      by Efficacy = table_right until work.efficacy (early.right Efficacy) efficacy

-- what is right on each number of a day before the touched one is right on each day
table_early : (known : Known) (until : Option ℕ) (table : TableValue) → IsRightUntil known until table → IsRightEarly known until table
table_early known None table right = record { enacted = right.enacted; versions = λ day early. right.versions day }
table_early known (Some touched) table right = record { enacted = right.enacted; versions = λ day early. right.versions day early.1 }

pub until_early : (known : Known) (until : Option ℕ) (work : WorkValue) → AreRightUntil known until work → AreRightEarly known until work
until_early known until work right = record {
  readings = right.readings;
  right = λ reading. table_early known until (table_in reading work) (right.right reading);
}

-- a day of the calendar before a touched one is before it
pub early_before : (day : ℕ) (o : Option ℕ) → IsEarly day o → IsBefore day o
early_before day None h = tt
early_before day (Some touched) h = h.1
