-- The references that are judged, and those that are left; each that moved takes a step.
use Rattle.std.proofs.Common.{◌≡◌, ◌+◌, ◌≤◌, ◌++◌, drop, map}
use Rattle.law_refs.specs.Counting.{moved_refs}
use Rattle.law_refs.specs.Judging as spec
use Rattle.law_refs.proofs.judging.judge_all_again.Given as goal

abbrev pub invariant-loop-one : goal.invariant-loop-one
invariant-loop-one g l = record {
  refs : l.judged ++ map (spec.judged_again (g.T.Targets.broken_rule l.targets) l.moved) (drop l.one-index l.refs)
      ≡ map (spec.judged_again (g.T.Targets.broken_rule l.targets) l.moved) l.refs;
  steps : l.steps + moved_refs l.moved (drop l.one-index l.refs) ≤ l.initial.steps + moved_refs l.moved l.refs;
}
