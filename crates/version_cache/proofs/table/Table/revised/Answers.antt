use Rattle.std.proofs.Common.{◌≡◌, ◌∙◌, ◌≤◌, ◌+◌, sym, ap, subst, List, ℕ, length, vec_capacity, vec_len}
use Rattle.law_register.specs.declared.answer.question.Reading.{Reading}
use Rattle.law_register.specs.declared.register.known.Known.{Known}
use Rattle.law_register.specs.Answer.Breakpoints.{breakpoints}
use Rattle.version_cache.specs.declared.row.Row.{Row}
use Rattle.version_cache.specs.Rows.{days_in, rows_view}
use Rattle.version_cache.specs.Seen.{table_view}
use Rattle.version_cache.specs.Tables.{IsRight, RevisionValue, RowValue, breakpoints_from, committed, rows_before, rows_on}
use Rattle.version_cache.specs.Working.{IsBehind, IsOfLast}
use Rattle.version_cache.proofs.LateDays.{days_from, new_ascend, new_late}
use Rattle.version_cache.proofs.Revised.{revised_right, revision_is}
use Rattle.version_cache.proofs.RowDays.{days_made}
use Rattle.version_cache.proofs.table.Table.revised.Goals as goal

pub invariant_of-result : goal.invariant_of-result
invariant_of-result c =
    let known : Known = c.args.known.now in
    let r : Reading = c.args.self.now.reading in
    let t : ℕ = c.args.touched in
    let days : days_in c.args.rows.items ≡ days_from t (breakpoints known) = days_made known r (breakpoints_from known t) c.args.rows.items c.requires.rows in
    record {
      ascending = new_ascend known t (days_in c.args.rows.items) days;
      late = new_late known t (days_in c.args.rows.items) days;
      room =
          subst (λ (n : ℕ). vec_len c.args.rows + n ≤ vec_capacity c.args.rows)
          (sym (c.count_rows_before-kept.ensures.count ∙ ap (λ (xs : List Row). length (rows_before t (rows_view xs))) c.as_slice.ensures.value)) c.requires.room;
      goes_on = subst (λ (xs : List Row). IsBehind (rows_view xs) c.behind-working.result) c.as_slice-2.ensures.value c.behind-working.ensures;
    }

pub returns-clause-revision : goal.returns-clause-revision
returns-clause-revision c =
    let known : Known = c.args.known.now in
    let t : ℕ = c.args.touched in
    revision_is t c.count_rows_before-kept.result (length (rows_before t (rows_view c.args.self.now.rows.items))) (rows_view c.args.rows.items)
    (rows_on known c.args.self.now.reading (breakpoints_from known t))
    (c.count_rows_before-kept.ensures.count ∙ ap (λ (xs : List Row). length (rows_before t (rows_view xs))) c.as_slice.ensures.value) c.requires.rows

pub returns-clause-right : goal.returns-clause-right
returns-clause-right c =
    let known : Known = c.args.known.now in
    let t : ℕ = c.args.touched in
    subst (λ (revision : RevisionValue). IsRight known (committed (table_view c.args.self.now) revision))
    (sym (revision_is t c.count_rows_before-kept.result (length (rows_before t (rows_view c.args.self.now.rows.items))) (rows_view c.args.rows.items)
    (rows_on known c.args.self.now.reading (breakpoints_from known t))
    (c.count_rows_before-kept.ensures.count ∙ ap (λ (xs : List Row). length (rows_before t (rows_view xs))) c.as_slice.ensures.value) c.requires.rows))
    (revised_right known (table_view c.args.self.now) c.requires.sound.steady t c.requires.right)
