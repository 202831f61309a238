-- None of those passed differs, so what is left decides.
use Rattle.std.proofs.Common.{◌≡◌, drop}
use Rattle.law_refs.specs.Judging.{are_those}
use Rattle.law_refs.proofs.judging.are_those.Given as goal

abbrev pub invariant-loop-one : goal.invariant-loop-one
invariant-loop-one l = are_those l.left (drop l.one-index l.refs) ≡ are_those l.fn.kept l.refs
