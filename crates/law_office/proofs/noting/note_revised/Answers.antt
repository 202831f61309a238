use Rattle.std.proofs.Common.{rules, ◌≡◌, ◌∙◌, ◌+◌, ◌<◌, sym, ap, subst, ℕ, List, ◌∷◌, drop, length, map}
use Rattle.std.proofs.lemmas.List.{drop_all, drop_more}
use Rattle.std.specs.List.{AllByRecursion}
use Rattle.version_cache.specs.declared.work_revision.WorkRevision.{WorkRevision}
use Rattle.version_cache.specs.Works.{WorkRevisionValue}
use Rattle.law_office.specs.Noting.{IsNoted}
use Rattle.law_office.specs.Tables.{revised_view}
use Rattle.law_office.proofs.noting.note_revised.Goals as goal

pub loop-work-preserved : goal.loop-work-preserved
loop-work-preserved c =
    let line : List (List ℕ × WorkRevision) = c.args.revised.now in
    let i : ℕ = c.loop-work.work-index in
    let d : List ℕ × WorkRevision = c.loop-work-item.result in
    let within : i < length line = search rules in
    let cut : drop i line ≡ d ∷ drop (i + 1) line = drop_more line i d within ∙ ap (λ x. x ∷ drop (i + 1) line) (sym c.loop-work-item.is) in
    record {
      more = λ w there. c.note.ensures.more w (c.loop-work.invariant.more w there);
      all = λ later more rest.
          c.loop-work.invariant.all later (λ w there. more w (c.note.ensures.more w there))
          (subst (λ (left : List (List ℕ × WorkRevision)).
          AllByRecursion (λ (one : List ℕ × WorkRevisionValue). IsNoted later one.0 one.1.names) (map revised_view left)) (sym cut)
          (λ names. more d.0 (c.in_ok-note.ensures.noted (c.names_any.ensures ∙ names)), rest));
    }

pub returns-clause-noted : goal.returns-clause-noted
returns-clause-noted c =
    let line : List (List ℕ × WorkRevision) = c.args.revised.now in
    c.loop-work.invariant.all c.loop-work.naming (λ w there. there)
    (subst (λ (left : List (List ℕ × WorkRevision)).
    AllByRecursion (λ (one : List ℕ × WorkRevisionValue). IsNoted c.loop-work.naming one.0 one.1.names) (map revised_view left))
    (sym (drop_all c.loop-work.work-index line c.loop-work-test.false)) tt)
