use Rattle.std.proofs.Common.{◌≡◌, ◌∙◌, [], sym, ap, length, ℕ, List, map}
use Rattle.std.proofs.lemmas.Bool.{eqb-true}
use Rattle.std.proofs.lemmas.List.{nil_from_length}
use Rattle.version_cache.specs.declared.work_revision.WorkRevision.{WorkRevision}
use Rattle.law_office.specs.Movements.{days_moved}
use Rattle.law_office.specs.Tables.{revised_view}
use Rattle.law_office.proofs.After.{legal_then}
use Rattle.law_office.proofs.Gathered.{all_rows, all_works, fresh_now, once_now}
use Rattle.law_office.proofs.references.refs_moved.Goals as goal

pub gather_revised-requires-clause-fresh : goal.gather_revised-requires-clause-fresh
gather_revised-requires-clause-fresh g c =
    let days = ap (λ (rs : List (List ℕ × WorkRevision)). days_moved (map revised_view rs)) c.as_slice-revised.ensures.value ∙ c.requires.moved.days in
    fresh_now c.args.register.now.entries c.args.entry.now c.entries_are_legal.ensures c.requires.accepted (days_moved (map revised_view c.as_slice-revised.result.now))
    c.new-works.result c.gather_enacted.new.works days c.new-works.ensures c.in_ok-gather_enacted.ensures.works

pub gather_revised-requires-clause-once : goal.gather_revised-requires-clause-once
gather_revised-requires-clause-once g c =
    let days = ap (λ (rs : List (List ℕ × WorkRevision)). days_moved (map revised_view rs)) c.as_slice-revised.ensures.value ∙ c.requires.moved.days in
    once_now c.args.register.now.entries c.args.entry.now c.entries_are_legal.ensures (days_moved (map revised_view c.as_slice-revised.result.now)) days

pub returns-then-is_empty-clause-index : goal.returns-then-is_empty-clause-index
returns-then-is_empty-clause-index g c =
    let es = c.args.register.now.entries in
    let e = c.args.entry.now in
    let days = ap (λ (rs : List (List ℕ × WorkRevision)). days_moved (map revised_view rs)) c.as_slice-revised.ensures.value ∙ c.requires.moved.days in
    let works =
    all_works es e (days_moved (map revised_view c.as_slice-revised.result.now)) c.new-works.result c.gather_enacted.new.works c.gather_revised.new.works days
    c.new-works.ensures c.in_ok-gather_enacted.ensures.works c.in_ok-gather_revised.ensures.works in
    let none : c.as_slice.result.now ≡ [] =
    nil_from_length c.as_slice.result.now (eqb-true (length c.as_slice.result.now) 0 (sym c.is_empty.ensures ∙ c.if-is_empty.true)) in
    c.what_moves_no_work_leaves_the_index.ensures.index es e c.args.index.now (legal_then es e c.entries_are_legal.ensures c.requires.accepted)
    (sym works ∙ sym c.as_slice.ensures ∙ none) c.requires.index

pub revise_moved-requires-clause-legal : goal.revise_moved-requires-clause-legal
revise_moved-requires-clause-legal g c = legal_then c.args.register.now.entries c.args.entry.now c.entries_are_legal.ensures c.requires.accepted

pub revise_moved-requires-clause-works : goal.revise_moved-requires-clause-works
revise_moved-requires-clause-works g c =
    let days = ap (λ (rs : List (List ℕ × WorkRevision)). days_moved (map revised_view rs)) c.as_slice-revised.ensures.value ∙ c.requires.moved.days in
    all_works c.args.register.now.entries c.args.entry.now (days_moved (map revised_view c.as_slice-revised.result.now)) c.new-works.result
    c.gather_enacted.new.works c.gather_revised.new.works days c.new-works.ensures c.in_ok-gather_enacted.ensures.works c.in_ok-gather_revised.ensures.works

pub revise_moved-requires-clause-rows : goal.revise_moved-requires-clause-rows
revise_moved-requires-clause-rows g c =
    let days = ap (λ (rs : List (List ℕ × WorkRevision)). days_moved (map revised_view rs)) c.as_slice-revised.ensures.value ∙ c.requires.moved.days in
    all_rows c.args.register.now.entries c.args.entry.now (days_moved (map revised_view c.as_slice-revised.result.now)) c.new-rows.result
    c.gather_enacted.new.rows c.gather_revised.new.rows days c.new-rows.ensures c.in_ok-gather_enacted.ensures.rows c.in_ok-gather_revised.ensures.rows
