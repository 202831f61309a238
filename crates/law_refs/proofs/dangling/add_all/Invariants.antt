-- What is found so far, and what dangles of the rest.
use Rattle.std.proofs.Common.{◌≡◌, ◌++◌, drop}
use Rattle.law_refs.specs.Listed as spec
use Rattle.law_refs.proofs.dangling.add_all.Given as goal

abbrev pub invariant-loop-kept : goal.invariant-loop-kept
invariant-loop-kept l = l.found ++ spec.all_listed l.work (drop l.kept-index l.refs) ≡ l.initial.found ++ spec.all_listed l.work l.refs
