-- What is kept so far, and what is left; each reference that moved takes a step.
use Rattle.std.proofs.Common.{◌≡◌, ◌+◌, ◌≤◌, ◌++◌}
use Rattle.std.specs.Cmp.Lexicographic.{slice_cmp}
use Rattle.std.specs.List.Sorted.{IsStrictlySortedBy}
use Rattle.std.specs.Map.{keys_of}
use Rattle.std.specs.Ordering.{nat_cmp}
use Rattle.law_refs.specs.Index as spec
use Rattle.law_refs.proofs.revising.all_again.Given as goal

abbrev pub invariant-loop-work : goal.invariant-loop-work
invariant-loop-work g l = record {
  ordered : IsStrictlySortedBy (slice_cmp nat_cmp) (keys_of l.old.entries);
  works : l.works.entries ++ spec.all_again (g.T.Targets.broken_rule l.targets) l.moved (spec.all_staying l.rows l.work-iterator)
      ≡ spec.all_again (g.T.Targets.broken_rule l.targets) l.moved (spec.all_staying l.rows l.old.entries);
  steps : l.steps + spec.moved_in l.moved (spec.all_staying l.rows l.work-iterator)
      ≤ l.initial.steps + spec.moved_in l.moved (spec.all_staying l.rows l.old.entries);
}
