use Rattle.std.proofs.Common.{◌≡◌, ◌∙◌, ◌≤◌, ◌+◌, sym, ap, refl, subst, List, ℕ, length, take, vec_capacity, vec_len}
use Rattle.desk_base.specs.declared.id.Id.{Id}
use Rattle.law_register.specs.declared.answer.question.Reading.{Reading}
use Rattle.law_register.specs.declared.register.known.Known.{Known}
use Rattle.law_register.specs.Answer.Breakpoints.{breakpoints}
use Rattle.law_register.specs.Answer.Replay.{as_enacted, replayed}
use Rattle.law_register.specs.Answer.Versions.{version_view}
use Rattle.version_cache.specs.declared.row.Row.{Row}
use Rattle.version_cache.specs.Days.{days_before, last_day, order_by}
use Rattle.version_cache.specs.Rows.{kept_view, rows_view}
use Rattle.version_cache.specs.Seen.{table_view}
use Rattle.version_cache.specs.Tables.{last_version, rows_before, rows_on}
use Rattle.version_cache.proofs.Going.{of_last}
use Rattle.version_cache.proofs.LateDays.{parted_before, parted_from, revised_cost}
use Rattle.version_cache.proofs.Revised.{last_kept_is}
use Rattle.version_cache.proofs.Right.{by_order}
use Rattle.version_cache.proofs.RowFronts.{stay_is}
use Rattle.version_cache.proofs.table.Table.rows_from.Goals as goal

pub add_rows-requires-clause-working : goal.add_rows-requires-clause-working
add_rows-requires-clause-working g c =
    c.requires.last
    ∙ sym (c.last_kept.ensures
    ∙ ap (last_version (kept_view c.args.self.now.enacted))
    (stay_is c.args.touched c.args.self.now.rows.items c.as_slice.result.now c.as_slice-2.result.now c.split_at-stay.result.0.now c.count_rows_before-kept.result
    c.args.self.now.ascending c.as_slice.ensures.value c.as_slice-2.ensures.value c.count_rows_before-kept.ensures.count c.split_at-stay.ensures.front))

pub add_rows-requires-clause-last : goal.add_rows-requires-clause-last
add_rows-requires-clause-last g c =
    let known : Known = c.args.known.now in
    let r : Reading = c.args.self.now.reading in
    let t : ℕ = c.args.touched in
    c.last_kept.ensures
    ∙ ap (last_version (kept_view c.args.self.now.enacted))
    (stay_is t c.args.self.now.rows.items c.as_slice.result.now c.as_slice-2.result.now c.split_at-stay.result.0.now c.count_rows_before-kept.result c.args.self.now.ascending
    c.as_slice.ensures.value c.as_slice-2.ensures.value c.count_rows_before-kept.ensures.count c.split_at-stay.ensures.front)
    ∙ last_kept_is known (table_view c.args.self.now) c.requires.sound.steady t c.requires.right
    ∙ by_order known r (last_day (days_before t (breakpoints known)))
    ∙ sym (ap (replayed known.mods (as_enacted known.act))
    (c.in_ok-ids.ensures.before
    ∙ ap (λ (ds : List ℕ). order_by known r (last_day ds))
    (parted_before known t c.args.days.now c.args.days.now (take c.count_days_before-count.result c.args.days.now) c.count_days_before-count.result
    c.requires.days c.requires.days c.count_days_before-count.ensures.count refl)))

pub returns-in_err-add_rows-clause-steps : goal.returns-in_err-add_rows-clause-steps
returns-in_err-add_rows-clause-steps g c =
    let known : Known = c.args.known.now in
    let r : Reading = c.args.self.now.reading in
    let t : ℕ = c.args.touched in
    let ids : List Id = c.in_ok-ids.ids in
    let ordered : ids ≡ order_by known r (last_day (days_before t (breakpoints known))) =
    c.in_ok-ids.ensures.before
    ∙ ap (λ (ds : List ℕ). order_by known r (last_day ds))
    (parted_before known t c.args.days.now c.args.days.now (take c.count_days_before-count.result c.args.days.now) c.count_days_before-count.result
    c.requires.days c.requires.days c.count_days_before-count.ensures.count refl) in
    let back = parted_from known t c.args.days.now c.args.days.now c.split_at-parts.result.1.now c.count_days_before-count.result c.requires.days c.requires.days c.count_days_before-count.ensures.count c.split_at-parts.ensures.back in
    subst (λ (n : ℕ). c.add_rows.new.steps ≤ c.args.steps.now + n) (revised_cost known t r ids c.split_at-parts.result.1.now ordered back) c.add_rows.ensures.steps

pub returns-in_err-reserve-clause-steps : goal.returns-in_err-reserve-clause-steps
returns-in_err-reserve-clause-steps g c =
    let known : Known = c.args.known.now in
    let r : Reading = c.args.self.now.reading in
    let t : ℕ = c.args.touched in
    let ids : List Id = c.in_ok-ids.ids in
    let ordered : ids ≡ order_by known r (last_day (days_before t (breakpoints known))) =
    c.in_ok-ids.ensures.before
    ∙ ap (λ (ds : List ℕ). order_by known r (last_day ds))
    (parted_before known t c.args.days.now c.args.days.now (take c.count_days_before-count.result c.args.days.now) c.count_days_before-count.result
    c.requires.days c.requires.days c.count_days_before-count.ensures.count refl) in
    let back = parted_from known t c.args.days.now c.args.days.now c.split_at-parts.result.1.now c.count_days_before-count.result c.requires.days c.requires.days c.count_days_before-count.ensures.count c.split_at-parts.ensures.back in
    subst (λ (n : ℕ). c.add_rows.new.steps ≤ c.args.steps.now + n) (revised_cost known t r ids c.split_at-parts.result.1.now ordered back) c.add_rows.ensures.steps

pub returns-clause-rows : goal.returns-clause-rows
returns-clause-rows g c =
    let known : Known = c.args.known.now in
    let r : Reading = c.args.self.now.reading in
    let t : ℕ = c.args.touched in
    let back = parted_from known t c.args.days.now c.args.days.now c.split_at-parts.result.1.now c.count_days_before-count.result c.requires.days c.requires.days c.count_days_before-count.ensures.count c.split_at-parts.ensures.back in
    ap rows_view c.reserve.ensures.items ∙ c.in_ok-add_rows.ensures.rows ∙ ap (rows_on known r) back

pub returns-clause-room : goal.returns-clause-room
returns-clause-room g c =
    subst (λ (n : ℕ). vec_len c.reserve.new.self + n ≤ vec_capacity c.reserve.new.self)
    (c.count_rows_before-kept.ensures.count ∙ ap (λ (xs : List Row). length (rows_before c.args.touched (rows_view xs))) c.as_slice.ensures.value)
    c.in_ok-reserve.ensures.ok

pub returns-clause-last : goal.returns-clause-last
returns-clause-last g c =
    of_last (kept_view c.last_kept.result.now) (rows_view c.reserve.new.self.items) (version_view c.add_rows.new.working)
    (c.in_ok-add_rows.ensures.working ∙ sym (ap (λ (xs : List Row). last_version (kept_view c.last_kept.result.now) (rows_view xs)) c.reserve.ensures.items))

pub returns-clause-steps : goal.returns-clause-steps
returns-clause-steps g c =
    let known : Known = c.args.known.now in
    let r : Reading = c.args.self.now.reading in
    let t : ℕ = c.args.touched in
    let ids : List Id = c.in_ok-ids.ids in
    let ordered : ids ≡ order_by known r (last_day (days_before t (breakpoints known))) =
    c.in_ok-ids.ensures.before
    ∙ ap (λ (ds : List ℕ). order_by known r (last_day ds))
    (parted_before known t c.args.days.now c.args.days.now (take c.count_days_before-count.result c.args.days.now) c.count_days_before-count.result
    c.requires.days c.requires.days c.count_days_before-count.ensures.count refl) in
    let back = parted_from known t c.args.days.now c.args.days.now c.split_at-parts.result.1.now c.count_days_before-count.result c.requires.days c.requires.days c.count_days_before-count.ensures.count c.split_at-parts.ensures.back in
    subst (λ (n : ℕ). c.add_rows.new.steps ≤ c.args.steps.now + n) (revised_cost known t r ids c.split_at-parts.result.1.now ordered back) c.add_rows.ensures.steps
