use Rattle.std.proofs.Common.{◌≡◌, map, drop}
use Rattle.law_http.specs.Queries as spec
use Rattle.law_http.proofs.query.has_none_twice.Given as goal

abbrev pub invariant-loop-name : goal.invariant-loop-name
invariant-loop-name l =
    spec.has_none_twice (map (λ n. n.now) (drop l.name-index l.names)) (map spec.pair_view l.pairs)
    ≡ spec.has_none_twice (map (λ n. n.now) l.names) (map spec.pair_view l.pairs)
