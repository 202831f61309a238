use Rattle.version_cache.specs.Seen.{work_view}
use Rattle.version_cache.proofs.Early.{until_early}
use Rattle.table_trial.proofs.kept.revise.Goals as goal

pub revise-requires-clause-right : goal.revise-requires-clause-right
revise-requires-clause-right g c = until_early c.args.known c.args.touched (work_view c.args.tables.now) c.requires.right
