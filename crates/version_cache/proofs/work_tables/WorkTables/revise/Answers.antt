use Rattle.std.proofs.Common.{option_map}
use Rattle.version_cache.specs.Seen.{both_view, work_view}
use Rattle.version_cache.proofs.Renewed.{renewed_is_for, revision_made}
use Rattle.version_cache.proofs.work_tables.WorkTables.revise.Goals as goal

pub returns-in-Ok-clause-revision : goal.returns-in-Ok-clause-revision
returns-in-Ok-clause-revision g c =
    revision_made c.args.known c.alone.result c.names_any.result c.in-Ok.days c.args.touched (work_view c.args.self.now) (option_map both_view c.in-Ok.tables)
    c.alone.ensures c.names_any.ensures c.in-Ok.ensures.days c.in-Ok.ensures.revisions

pub returns-in-Ok-clause-right : goal.returns-in-Ok-clause-right
returns-in-Ok-clause-right g c =
    renewed_is_for c.args.known c.requires.sound.steady c.args.touched (work_view c.args.self.now) _ c.in-Ok.ensures.right (returns-in-Ok-clause-revision g c)
