-- The first of the other refs stand behind those that there were.
use Rattle.std.proofs.Common.{◌≡◌, ◌++◌, take}
use Rattle.act_tree.proofs.refs.Refs.joined.Given as goal

abbrev pub invariant-loop-iri : goal.invariant-loop-iri
invariant-loop-iri l = l.refs ≡ l.self ++ take l.iri-index l.iri-items
