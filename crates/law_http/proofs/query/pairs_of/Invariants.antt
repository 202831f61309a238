use Rattle.std.proofs.Common.{◌≡◌, ◌++◌, map}
use Rattle.form_urlencoded.specs.Parse.{pairs_left}
use Rattle.law_http.specs.Queries.{pair_view, text_of, query_pairs}
use Rattle.law_http.proofs.query.pairs_of.Given as goal

abbrev pub invariant-loop-pair : goal.invariant-loop-pair
invariant-loop-pair l =
    (goal.iterator-loop-pair).can_next l.pair-iterator × (goal.iterator-loop-pair).is_finite l.pair-iterator
    × (map pair_view l.pairs.items ++ map (λ p. (text_of p.0, text_of p.1)) (pairs_left l.pair-iterator) ≡ query_pairs l.text)
