-- What is found so far, and the references that are left.
use Rattle.std.proofs.Common.{◌≡◌, ◌++◌, drop}
use Rattle.law_refs.specs.Missing as spec
use Rattle.law_office.proofs.text_refs.add_refs.Given as goal

abbrev pub invariant-loop-iri : goal.invariant-loop-iri
invariant-loop-iri l = l.found ++ spec.refs_at l.eid (drop l.iri-index l.refs) ≡ l.initial.found ++ spec.refs_at l.eid l.refs
