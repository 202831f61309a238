-- What is put from here on is put from the start, and what is kept by then is right; each reference that is handed in takes a step.
use Rattle.std.proofs.Common.{◌≡◌, ◌+◌, ◌≤◌, drop}
use Rattle.law_refs.specs.Index as spec
use Rattle.law_refs.specs.Right.{IsRight}
use Rattle.law_refs.proofs.revising.put_all.Given as goal

abbrev pub invariant-loop-row : goal.invariant-loop-row
invariant-loop-row g l = record {
  works : spec.put_all (g.T.Targets.broken_rule l.targets) l.works.entries (drop l.row-index l.rows)
      ≡ spec.put_all (g.T.Targets.broken_rule l.targets) l.initial.works.entries l.rows;
  right : IsRight (g.T.Targets.broken_rule l.targets) l.works.entries;
  steps : l.steps + spec.refs_in (drop l.row-index l.rows) ≤ l.initial.steps + spec.refs_in l.rows;
}
