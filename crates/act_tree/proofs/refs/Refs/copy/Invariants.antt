-- The refs copied so far are the first of the refs.
use Rattle.std.proofs.Common.{◌≡◌, take}
use Rattle.act_tree.proofs.refs.Refs.copy.Given as goal

abbrev pub invariant-loop-iri : goal.invariant-loop-iri
invariant-loop-iri l = l.items.items ≡ take l.iri-index l.iri-items
