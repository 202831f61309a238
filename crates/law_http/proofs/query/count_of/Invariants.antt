use Rattle.std.proofs.Common.{◌≡◌, ◌≤◌, map, take}
use Rattle.law_http.specs.Queries as spec
use Rattle.law_http.proofs.query.count_of.Given as goal

abbrev pub invariant-loop-pair : goal.invariant-loop-pair
invariant-loop-pair l = (l.count ≡ spec.count_of l.name (map spec.pair_view (take l.pair-index l.pairs))) × (l.count ≤ l.pair-index)
