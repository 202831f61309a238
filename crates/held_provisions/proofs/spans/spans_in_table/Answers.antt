use Rattle.std.proofs.Common.{rules, ◌≡◌, ◌∙◌, sym, ap, ℕ, ◌+◌, ◌<◌, Bool, List, ◌∷◌, ◌++◌, drop, length, option_map}
use Rattle.std.proofs.lemmas.List.{drop_all, drop_more}
use Rattle.law_register.specs.declared.answer.question.Reading.{Reading}
use Rattle.law_register.specs.Answer.Versions.{version_view}
use Rattle.held_provisions.specs.Kept as kept
use Rattle.held_provisions.specs.Kept.{stands_by_version}
use Rattle.held_provisions.specs.Walking.{spans_after}
use Rattle.law_register.specs.Provisions.Spans.{spans_of}
use Rattle.version_cache.specs.Seen.{revision_view, table_view}
use Rattle.held_provisions.proofs.Walked.{same_reading, walked, walked_all}
use Rattle.held_provisions.proofs.spans.spans_in_table.Goals as goal

pub loop-day-preserved : goal.loop-day-preserved
loop-day-preserved g c =
    let table = kept.committed_if (table_view c.args.table.now) (option_map (λ r. revision_view r.now) c.args.revision) in
    let test : ℕ → Bool = kept.stands_by_table c.args.known.now table c.args.provision.now in
    let days : List ℕ = c.args.days.now in
    let i : ℕ = c.loop-day.day-index in
    let day : ℕ = c.day-item.result in
    let within : i < length days = search rules in
    let cut : drop i days ≡ day ∷ drop (i + 1) days = drop_more days i day within ∙ ap (λ d. d ∷ drop (i + 1) days) (sym c.day-item.is) in
    let holds : c.in_ok-holds.holds ≡ test day =
    c.in_ok-holds.ensures
    ∙ ap (λ (r : Reading). stands_by_version c.args.known.now r day c.args.provision.now (version_view c.version_by-version.result.now))
    (c.reading-reading.ensures ∙ same_reading (table_view c.args.table.now) (option_map (λ r. revision_view r.now) c.args.revision))
    ∙ ap (stands_by_version c.args.known.now table.reading day c.args.provision.now) c.version_by-version.ensures in
    ap (λ s. c.add_ended.new.spans ++ spans_after test s (drop (i + 1) days)) c.since_when-since.ensures
    ∙ walked test day (drop (i + 1) days) c.loop-day.since c.in_ok-holds.holds holds c.loop-day.spans c.add_ended.new.spans (spans_of test days) c.in_ok-add_ended.ensures
    (ap (λ ds. c.loop-day.spans ++ spans_after test c.loop-day.since ds) (sym cut) ∙ c.loop-day.invariant)

pub returns : goal.returns
returns g c =
    let table = kept.committed_if (table_view c.args.table.now) (option_map (λ r. revision_view r.now) c.args.revision) in
    let test : ℕ → Bool = kept.stands_by_table c.args.known.now table c.args.provision.now in
    walked_all test c.loop-day.since c.loop-day.spans c.add_not_ended.new.spans (spans_of test c.args.days.now) c.in_ok-add_not_ended.ensures
    (ap (λ ds. c.loop-day.spans ++ spans_after test c.loop-day.since ds) (sym (drop_all c.loop-day.day-index c.args.days.now (search rules))) ∙ c.loop-day.invariant)
