use Rattle.std.proofs.Common.{◌∙◌}
use Rattle.version_cache.proofs.work_tables.WorkTables.revise_all.Goals as goal

pub are_right_before-requires-clause-days : goal.are_right_before-requires-clause-days
are_right_before-requires-clause-days g c = c.as_slice.ensures ∙ c.in_ok-days.ensures
