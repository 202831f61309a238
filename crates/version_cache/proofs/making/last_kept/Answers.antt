use Rattle.std.proofs.Common.{sym}
use Rattle.version_cache.specs.Rows.{kept_view}
use Rattle.version_cache.proofs.LastRow.{last_of}
use Rattle.version_cache.proofs.making.last_kept.Goals as goal

pub returns-in-Some : goal.returns-in-Some
returns-in-Some c = sym (last_of (kept_view c.args.last.now) c.args.rows.now c.in-Some.row.now (sym c.in-Some.ensures.value))
