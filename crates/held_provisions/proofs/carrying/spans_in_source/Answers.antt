use Rattle.std.proofs.Common.{rules, ◌≡◌, ◌∙◌, sym, ap, ℕ, ◌+◌, ◌<◌, Bool, List, ◌∷◌, ◌++◌, drop, length}
use Rattle.std.proofs.lemmas.List.{drop_all, drop_more}
use Rattle.law_register.specs.declared.register.known.Known.{Known}
use Rattle.law_register.specs.Answer.Versions.{version_view}
use Rattle.version_cache.specs.Works.{WorkValue}
use Rattle.held_provisions.specs.Kept.{source_view, stands_by_version}
use Rattle.held_provisions.specs.Sources.{stands_kept}
use Rattle.held_provisions.specs.Walking.{spans_after}
use Rattle.law_register.specs.Provisions.Spans.{spans_of}
use Rattle.held_provisions.proofs.Walked.{walked, walked_all}
use Rattle.held_provisions.proofs.carrying.spans_in_source.Goals as goal

pub loop-day-preserved : goal.loop-day-preserved
loop-day-preserved g c =
    let kept : WorkValue = source_view c.args.source.now in
    let test : ℕ → Bool = stands_kept kept c.args.reading c.args.provision.now in
    let days : List ℕ = c.days-days.result.now in
    let i : ℕ = c.loop-day.day-index in
    let day : ℕ = c.day-item.result in
    let within : i < length days = search rules in
    let cut : drop i days ≡ day ∷ drop (i + 1) days = drop_more days i day within ∙ ap (λ d. d ∷ drop (i + 1) days) (sym c.day-item.is) in
    let holds : c.in_ok-holds.holds ≡ test day =
    c.in_ok-holds.ensures
    ∙ ap (λ (k : Known). stands_by_version k c.args.reading day c.args.provision.now (version_view c.on-version.result.now)) c.known-known.ensures
    ∙ ap (stands_by_version kept.known c.args.reading day c.args.provision.now) c.on-version.ensures in
    ap (λ s. c.add_ended.new.spans ++ spans_after test s (drop (i + 1) days)) c.since_when-since.ensures
    ∙ walked test day (drop (i + 1) days) c.loop-day.since c.in_ok-holds.holds holds c.loop-day.spans c.add_ended.new.spans (spans_of test days) c.in_ok-add_ended.ensures
    (ap (λ ds. c.loop-day.spans ++ spans_after test c.loop-day.since ds) (sym cut) ∙ c.loop-day.invariant)

pub returns : goal.returns
returns g c =
    let kept : WorkValue = source_view c.args.source.now in
    let test : ℕ → Bool = stands_kept kept c.args.reading c.args.provision.now in
    let days : List ℕ = c.days-days.result.now in
    walked_all test c.loop-day.since c.loop-day.spans c.add_not_ended.new.spans (spans_of test days) c.in_ok-add_not_ended.ensures
    (ap (λ ds. c.loop-day.spans ++ spans_after test c.loop-day.since ds) (sym (drop_all c.loop-day.day-index days (search rules))) ∙ c.loop-day.invariant)
    ∙ ap (spans_of test) c.days-days.ensures
