use Rattle.std.proofs.Common.{◌∙◌, sym, ap}
use Rattle.version_cache.specs.Days.{last_until}
use Rattle.version_cache.specs.Seen.{work_view}
use Rattle.version_cache.proofs.Early.{early_until}
use Rattle.version_cache.proofs.work_tables.WorkTables.are_right_before.Goals as goal

pub returns : goal.returns
returns c =
    early_until c.args.known.now c.requires.sound.steady (ap (last_until 0) (sym c.requires.days) ∙ c.days_are_counted.ensures) c.args._touched.now (work_view c.args.self.now)
    c.requires.right c.rows_are_counted.ensures c.rows_are_counted-2.ensures
