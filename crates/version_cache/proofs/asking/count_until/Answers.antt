use Rattle.std.proofs.Common.{rules, of_calls, nat_le}
use Rattle.std.proofs.lemmas.Fn.{always_returns_same}
use Rattle.version_cache.proofs.Points.{point_counts, rises}
use Rattle.version_cache.proofs.asking.count_until.Goals as goal

pub returns-clause-count : goal.returns-clause-count
returns-clause-count c =
    let point = c.partition_point.ensures.partitioned (λ row. nat_le row.day c.args.day) (always_returns_same _ _ _ (λ a r f k. search (rules, of_calls)))
    (rises c.args.day c.args.rows.now c.requires) in
    point_counts c.args.day c.args.rows.now c.partition_point.result c.partition_point.ensures.bound (λ k e. point.0 k e) (λ k e. point.1 k e)
