use Rattle.version_cache.specs.Seen.{table_view}
use Rattle.version_cache.proofs.Renewed.{made_is, made_is_for}
use Rattle.version_cache.proofs.work_tables.WorkTables.make.Goals as goal

pub returns-in-Ok-clause-made : goal.returns-in-Ok-clause-made
returns-in-Ok-clause-made g c =
    made_is c.args.known c.alone.result c.names_any.result c.in-Ok.days (table_view c.in-Ok.force) (table_view c.in-Ok.efficacy)
    c.alone.ensures c.names_any.ensures c.in-Ok.ensures.days c.in-Ok.ensures.force c.in-Ok.ensures.efficacy

pub returns-in-Ok-clause-right : goal.returns-in-Ok-clause-right
returns-in-Ok-clause-right g c =
    made_is_for c.args.known c.requires.steady _ (returns-in-Ok-clause-made g c)
