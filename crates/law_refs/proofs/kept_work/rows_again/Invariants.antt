-- The rows that are judged again, and those that are left; each reference that moved takes a step.
use Rattle.std.proofs.Common.{◌≡◌, ◌+◌, ◌≤◌, ◌++◌, drop, map}
use Rattle.law_refs.specs.Index.{moved_in_rows}
use Rattle.law_refs.specs.Rows as spec
use Rattle.law_refs.proofs.kept_work.rows_again.Given as goal

abbrev pub invariant-loop-row : goal.invariant-loop-row
invariant-loop-row g l = record {
  rows : l.now ++ map (spec.again_row (g.T.Targets.broken_rule l.targets) l.moved) (drop l.row-index l.rows)
      ≡ map (spec.again_row (g.T.Targets.broken_rule l.targets) l.moved) l.rows;
  steps : l.steps + moved_in_rows l.moved (drop l.row-index l.rows) ≤ l.initial.steps + moved_in_rows l.moved l.rows;
}
