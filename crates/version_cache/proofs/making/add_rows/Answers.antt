use Rattle.std.proofs.Common.{◌≡◌, ◌∙◌, ◌+◌, ◌<◌, ◌≤◌, ◌++◌, sym, ap, arith, drop, length, map, List, ◌∷◌, ℕ}
use Rattle.std.specs.Vec.Iter.{into_iter_items}
use Rattle.std.proofs.lemmas.List.{drop_more}
use Rattle.desk_base.specs.declared.id.Id.{Id}
use Rattle.law_register.specs.declared.answer.question.Reading.{Reading}
use Rattle.law_register.specs.declared.register.known.Known.{Known}
use Rattle.law_register.specs.Answer.Applied.{ids_applied}
use Rattle.law_register.specs.Answer.Costs.{cost_after}
use Rattle.law_register.specs.Answer.Order.{order}
use Rattle.law_register.specs.Answer.Soundness.{id_twice}
use Rattle.law_register.proofs.DueOnce.{order_once}
use Rattle.version_cache.specs.declared.row.Row.{Row}
use Rattle.version_cache.specs.Rows.{kept_view, rows_view}
use Rattle.version_cache.specs.Tables.{last_version, rows_on}
use Rattle.version_cache.proofs.Adding.{cost_step, day_left, last_step, made_by, next_day, orders_step, rows_step, rows_whole, spent_by}
use Rattle.version_cache.proofs.making.add_rows.Goals as goal

pub version_after-requires-clause-once : goal.version_after-requires-clause-once
version_after-requires-clause-once g c =
    let known : Known = c.args.course.now.known.now in
    let r : Reading = c.args.course.now.reading in
    let next = next_day known r c.args.days.now c.loop-ids.index c.in-Some.ids (into_iter_items c.next.new.self) (sym c.in-Some.ensures.steps.0 ∙ c.loop-ids.invariant.orders) in
    ap id_twice (c.as_slice-in-loop-ids-2.ensures ∙ next.ordered) ∙ order_once known r next.day c.requires.sound.ids

pub returns-clause-rows : goal.returns-clause-rows
returns-clause-rows g c =
    rows_whole c.args.course.now.known.now c.args.course.now.reading c.loop-ids.rows.items (into_iter_items c.loop-ids.ids-iterator) (drop c.loop-ids.index c.args.days.now) c.args.days.now
    (sym c.loop-ids.ids-iterator.rest.ok.0 ∙ c.in-None.ensures.steps.0) c.loop-ids.invariant.orders c.loop-ids.invariant.rows

pub returns-in_err-kept-clause-steps : goal.returns-in_err-kept-clause-steps
returns-in_err-kept-clause-steps g c =
    let known : Known = c.args.course.now.known.now in
    let r : Reading = c.args.course.now.reading in
    let days : List ℕ = c.args.days.now in
    let ids : List Id = c.in-Some.ids in
    let left : ids ∷ into_iter_items c.next.new.self ≡ map (order known r) (drop c.loop-ids.index days) = sym c.in-Some.ensures.steps.0 ∙ c.loop-ids.invariant.orders in
    let same : ids_applied c.as_slice-in-loop-ids.result.now c.as_slice-in-loop-ids-2.result.now ≡ ids_applied c.loop-ids.before ids =
    ap (λ ids. ids_applied ids c.as_slice-in-loop-ids-2.result.now) c.as_slice-in-loop-ids.ensures ∙ ap (ids_applied c.loop-ids.before) c.as_slice-in-loop-ids-2.ensures in
    let step : c.version_after.new.steps ≤ c.loop-ids.steps + ids_applied c.loop-ids.before ids = omega (arith, same, c.version_after.ensures.steps) in
    spent_by known r days c.loop-ids.index c.loop-ids.before ids (into_iter_items c.next.new.self) c.loop-ids.steps c.version_after.new.steps
    (c.args.steps.now + cost_after known r 0 c.args.start.ids days) left c.loop-ids.invariant.steps step

pub returns-in_err-push-clause-steps : goal.returns-in_err-push-clause-steps
returns-in_err-push-clause-steps g c =
    let known : Known = c.args.course.now.known.now in
    let r : Reading = c.args.course.now.reading in
    let days : List ℕ = c.args.days.now in
    let ids : List Id = c.in-Some.ids in
    let left : ids ∷ into_iter_items c.next.new.self ≡ map (order known r) (drop c.loop-ids.index days) = sym c.in-Some.ensures.steps.0 ∙ c.loop-ids.invariant.orders in
    let same : ids_applied c.as_slice-in-loop-ids.result.now c.as_slice-in-loop-ids-2.result.now ≡ ids_applied c.loop-ids.before ids =
    ap (λ ids. ids_applied ids c.as_slice-in-loop-ids-2.result.now) c.as_slice-in-loop-ids.ensures ∙ ap (ids_applied c.loop-ids.before) c.as_slice-in-loop-ids-2.ensures in
    let step : c.version_after.new.steps ≤ c.loop-ids.steps + ids_applied c.loop-ids.before ids = omega (arith, same, c.version_after.ensures.steps) in
    spent_by known r days c.loop-ids.index c.loop-ids.before ids (into_iter_items c.next.new.self) c.loop-ids.steps c.version_after.new.steps
    (c.args.steps.now + cost_after known r 0 c.args.start.ids days) left c.loop-ids.invariant.steps step

pub loop-ids-preserved : goal.loop-ids-preserved
loop-ids-preserved g c =
    let known : Known = c.args.course.now.known.now in
    let r : Reading = c.args.course.now.reading in
    let days : List ℕ = c.args.days.now in
    let i : ℕ = c.loop-ids.index in
    let ids : List Id = c.in-Some.ids in
    let left : ids ∷ into_iter_items c.next.new.self ≡ map (order known r) (drop i days) = sym c.in-Some.ensures.steps.0 ∙ c.loop-ids.invariant.orders in
    let within : i < length days = day_left known r days i ids (into_iter_items c.next.new.self) left in
    let day : ℕ = c.index-days-index.result in
    let cut : drop i days ≡ day ∷ drop (i + 1) days = drop_more days i day within ∙ ap (λ d. d ∷ drop (i + 1) days) (sym c.index-days-index.is) in
    let orders = orders_step known r ids (into_iter_items c.next.new.self) day (drop (i + 1) days) (drop i days) cut left in
    let row : Row = record { day = day; kept = c.in_ok-kept.kept } in
    let made : kept_view c.in_ok-kept.kept ≡ made_by known r ids = c.in_ok-kept.ensures.version ∙ ap (made_by known r) c.as_slice-in-loop-ids-2.ensures in
    let same : ids_applied c.as_slice-in-loop-ids.result.now c.as_slice-in-loop-ids-2.result.now ≡ ids_applied c.loop-ids.before ids =
    ap (λ ids. ids_applied ids c.as_slice-in-loop-ids-2.result.now) c.as_slice-in-loop-ids.ensures ∙ ap (ids_applied c.loop-ids.before) c.as_slice-in-loop-ids-2.ensures in
    let step : c.version_after.new.steps ≤ c.loop-ids.steps + ids_applied c.loop-ids.before ids = omega (arith, same, c.version_after.ensures.steps) in
    record {
      orders = orders.1;
      rows =
          ap (λ (rows : List Row). rows_view rows ++ rows_on known r (drop (i + 1) days)) c.in_ok-push.ensures.items
          ∙ rows_step known r c.loop-ids.rows.items row ids (drop (i + 1) days) (drop i days) days cut orders.0 made c.loop-ids.invariant.rows;
      own = c.in_ok-kept.ensures.own;
      working =
          c.in_ok-kept.ensures.working ∙ made ∙ sym (ap (λ (rows : List Row). last_version (kept_view c.args.start.last.now) (rows_view rows)) c.in_ok-push.ensures.items
          ∙ last_step known r (kept_view c.args.start.last.now) c.loop-ids.rows.items row ids made);
      last =
          ap (λ (rows : List Row). last_version (kept_view c.args.start.last.now) (rows_view rows)) c.in_ok-push.ensures.items
          ∙ last_step known r (kept_view c.args.start.last.now) c.loop-ids.rows.items row ids made;
      steps =
          cost_step known r c.loop-ids.before ids day (drop (i + 1) days) (drop i days) c.loop-ids.steps c.version_after.new.steps
          (c.args.steps.now + cost_after known r 0 c.args.start.ids days) cut orders.0 c.loop-ids.invariant.steps step;
    }
