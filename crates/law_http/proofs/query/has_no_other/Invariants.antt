use Rattle.std.proofs.Common.{◌≡◌, map, drop}
use Rattle.law_http.specs.Queries as spec
use Rattle.law_http.proofs.query.has_no_other.Given as goal

abbrev pub invariant-loop-pair : goal.invariant-loop-pair
invariant-loop-pair l =
    spec.has_no_other (map (λ n. n.now) l.names) (map spec.pair_view (drop l.pair-index l.pairs))
    ≡ spec.has_no_other (map (λ n. n.now) l.names) (map spec.pair_view l.pairs)
