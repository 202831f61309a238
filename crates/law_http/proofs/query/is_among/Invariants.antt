use Rattle.std.proofs.Common.{◌≡◌, map, drop}
use Rattle.law_http.specs.Queries as spec
use Rattle.law_http.proofs.query.is_among.Given as goal

abbrev pub invariant-loop-other : goal.invariant-loop-other
invariant-loop-other l = spec.is_among (map (λ n. n.now) (drop l.other-index l.names)) l.name ≡ spec.is_among (map (λ n. n.now) l.names) l.name
