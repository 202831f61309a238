use Rattle.std.proofs.Common.{◌∙◌, ap, ℕ, List, [], ◌∷◌, ◌++◌}
use Rattle.law_refs.specs.Covering.{cover}
use Rattle.law_refs.proofs.Covered.{cover_judged}
use Rattle.law_refs.proofs.kept_work.judged_behind.Goals as goal

pub with_judged-requires : goal.with_judged-requires
with_judged-requires g c =
    ap (λ (names : List (List ℕ)). cover names (c.args.rows.now ++ record { from = c.args.row.now.from; refs = c.in_ok-judged.judged } ∷ []))
    c.in_ok-shared.ensures.ok
    ∙ cover_judged (g.T.Targets.broken_rule c.args.targets.now) c.args.named.now c.in_ok-noted.noted c.judge_all.new.works
    c.args.rows.now c.args.row.now.from c.as_slice.result.now c.in_ok-judged.judged
    c.in_ok-noted.ensures c.in_ok-judged.ensures.noted c.in_ok-judged.ensures.judged c.requires
