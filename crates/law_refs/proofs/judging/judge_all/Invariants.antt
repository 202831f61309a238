-- What is judged so far, and what is left; what is noted from here on is noted from the start; each reference takes a step.
use Rattle.std.proofs.Common.{◌≡◌, ◌+◌, ◌≤◌, ◌++◌, drop, length, map}
use Rattle.law_refs.specs.Covering.{all_noted}
use Rattle.law_refs.specs.Judging as spec
use Rattle.law_refs.proofs.judging.judge_all.Given as goal

abbrev pub invariant-loop-one : goal.invariant-loop-one
invariant-loop-one g l = record {
  judged : l.judged ++ map (spec.judged (g.T.Targets.broken_rule l.targets)) (drop l.one-index l.refs)
      ≡ map (spec.judged (g.T.Targets.broken_rule l.targets)) l.refs;
  noted : all_noted l.works (drop l.one-index l.refs) ≡ all_noted l.initial.works l.refs;
  steps : l.steps + length (drop l.one-index l.refs) ≤ l.initial.steps + length l.refs;
}
