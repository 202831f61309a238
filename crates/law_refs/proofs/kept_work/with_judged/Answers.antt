use Rattle.std.proofs.Common.{◌∙◌, ap, List, [], ◌∷◌, ◌++◌}
use Rattle.std.specs.Arc.{arc_value}
use Rattle.law_refs.specs.Covering.{cover}
use Rattle.law_refs.specs.declared.ref_row.DayRefs.{DayRefs}
use Rattle.law_refs.specs.declared.ref_row.WorkRefs.{WorkRefs}
use Rattle.law_refs.proofs.kept_work.with_judged.Goals as goal

pub invariant_of-result : goal.invariant_of-result
invariant_of-result c =
    ap (λ (kept : WorkRefs). cover (arc_value c.args.noted) kept.rows) c.in_ok-new.ensures.ok
    ∙ ap (cover (arc_value c.args.noted))
    (c.in_ok-push.ensures.ok
    ∙ ap (λ (rows : List DayRefs). rows ++ record { from = c.args.row.now.from; refs = c.args.judged } ∷ []) c.in_ok-all.ensures)
    ∙ c.requires
