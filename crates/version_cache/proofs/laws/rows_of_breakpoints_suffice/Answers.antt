use Rattle.version_cache.proofs.Right.{made_right}
use Rattle.version_cache.proofs.laws.rows_of_breakpoints_suffice.Goals as goal

pub returns : goal.returns
returns c = made_right c.args._known.now c.args._reading c.requires
