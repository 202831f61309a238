use Rattle.std.proofs.Common.{◌≡◌, map, drop}
use Rattle.law_http.specs.Queries as spec
use Rattle.law_http.proofs.query.first_value.Given as goal

abbrev pub invariant-loop-pair : goal.invariant-loop-pair
invariant-loop-pair l =
    spec.value_of l.name (map spec.pair_view (drop l.pair-index l.pairs)) ≡ spec.value_of l.name (map spec.pair_view l.pairs)
