-- What is found so far, and what dangles of the works that are left.
use Rattle.std.proofs.Common.{◌≡◌, ◌++◌}
use Rattle.law_refs.specs.Listed as spec
use Rattle.law_refs.proofs.ref_index.RefIndex.dangling.Given as goal

abbrev pub invariant-loop-work : goal.invariant-loop-work
invariant-loop-work l = l.found ++ spec.dangling_on l.day l.work-iterator ≡ spec.dangling_on l.day l.self
