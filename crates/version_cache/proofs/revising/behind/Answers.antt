use Rattle.version_cache.proofs.Going.{some_behind}
use Rattle.version_cache.proofs.revising.behind.Goals as goal

pub returns-in_default : goal.returns-in_default
returns-in_default c = some_behind c.args.rows.now c.args.working c.in_default.len_at_least c.requires.own c.requires.last
