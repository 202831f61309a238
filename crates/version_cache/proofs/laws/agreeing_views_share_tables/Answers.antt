use Rattle.version_cache.specs.Seen.{table_view}
use Rattle.version_cache.proofs.Agreeing.{right_until}
use Rattle.version_cache.proofs.laws.agreeing_views_share_tables.Goals as goal

pub returns : goal.returns
returns c = right_until c.args._old.now c.args._new.now c.args._touched (table_view c.args._table.now) c.requires.right c.requires.agree
