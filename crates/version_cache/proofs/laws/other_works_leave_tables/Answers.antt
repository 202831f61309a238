use Rattle.version_cache.specs.Seen.{work_view}
use Rattle.version_cache.proofs.Alike.{for_still}
use Rattle.version_cache.proofs.laws.other_works_leave_tables.Goals as goal

pub returns : goal.returns
returns c = for_still c.args._old.now c.args._new.now (work_view c.args._tables.now) c.requires.alike c.requires.was
