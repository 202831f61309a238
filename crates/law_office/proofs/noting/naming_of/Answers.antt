use Rattle.std.proofs.Common.{◌∙◌, sym, subst, ℕ, List}
use Rattle.std.specs.List.{AllByRecursion}
use Rattle.version_cache.specs.declared.work_tables.WorkTables.{WorkTables}
use Rattle.version_cache.specs.Seen.{work_view}
use Rattle.law_office.specs.Noting.{IsNoted}
use Rattle.law_office.proofs.Noted.{noted_kept}
use Rattle.law_office.proofs.noting.naming_of.Goals as goal

pub loop-work-preserved : goal.loop-work-preserved
loop-work-preserved c = λ later more rest.
    c.loop-work.invariant later (λ w there. more w (c.note.ensures.more w there))
    (subst (λ (left : List (List ℕ × WorkTables)). AllByRecursion (λ (e : List ℕ × WorkTables). IsNoted later e.0 (work_view e.1).names) left)
    (sym c.in-Some.ensures.steps)
    (λ names. more c.in-Some.work.now (c.in_ok-note.ensures.noted (c.names_any.ensures ∙ names)), rest))

pub returns : goal.returns
returns c =
    noted_kept c.loop-work.naming c.args.tables.now.entries
    (c.loop-work.invariant c.loop-work.naming (λ w there. there)
    (subst (λ (left : List (List ℕ × WorkTables)). AllByRecursion (λ (e : List ℕ × WorkTables). IsNoted c.loop-work.naming e.0 (work_view e.1).names) left)
    (sym c.in-None.ensures.steps.0) tt))
