-- What is shared of the table of force is the table of efficacy, where no modification that stands changes the efficacy of a textual one.
use Rattle.std.proofs.Common.{◌≡◌, ◌∙◌, sym, ap, ℕ, false, length, List, Some}
use Rattle.law_register.specs.declared.answer.question.Reading.TheVariants.{Force, Efficacy}
use Rattle.law_register.specs.declared.register.known.Known.{Known}
use Rattle.law_register.specs.Answer.Breakpoints.{breakpoints}
use Rattle.law_register.specs.Answer.Replay.{as_enacted}
use Rattle.version_cache.specs.Readings.{has_efficacy}
use Rattle.version_cache.specs.Tables.{RevisionValue, RowValue, TableValue, breakpoints_from, revision_like, revision_of, rows_before, rows_on, table_of}
use Rattle.version_cache.specs.Works.{AreRightUntil, WorkValue}
use Rattle.version_cache.proofs.OneOrder.{one_version}

module _ (known : Known) (none : has_efficacy known.mods ≡ false) where
  pub made_like : (force made : TableValue) → force ≡ table_of known Force → made ≡ record force { reading = Efficacy } → made ≡ table_of known Efficacy
  made_like force made is like =
      like
      ∙ ap (λ (t : TableValue). let table : TableValue = record t { reading = Efficacy } in table) is
      ∙ ap (λ (rows : List RowValue). let table : TableValue = record { reading = Efficacy; enacted = as_enacted known.act; rows = rows } in table)
      (sym (one_version known none (breakpoints known)))

  pub revised_like : (day : ℕ) (work : WorkValue) (force made : RevisionValue) → AreRightUntil known (Some day) work → force ≡ revision_of work.force known day
      → made ≡ revision_like work.efficacy force → made ≡ revision_of work.efficacy known day
  revised_like day work force made right is like =
      like
      ∙ ap (revision_like work.efficacy) is
      ∙ ap
      (λ (rows : List RowValue). let revision : RevisionValue = record { touched = day; kept = length (rows_before day work.efficacy.rows); rows = rows } in revision)
      (ap (λ r. rows_on known r (breakpoints_from known day)) (right.readings Force)
      ∙ sym (one_version known none (breakpoints_from known day))
      ∙ sym (ap (λ r. rows_on known r (breakpoints_from known day)) (right.readings Efficacy)))
