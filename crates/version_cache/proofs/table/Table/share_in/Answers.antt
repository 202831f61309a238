use Rattle.std.proofs.Common.{◌∙◌, ap}
use Rattle.version_cache.specs.Days.{is_ascending}
use Rattle.version_cache.specs.Rows.{rows_view}
use Rattle.version_cache.proofs.RowDays.{same_days}
use Rattle.version_cache.proofs.table.Table.share_in.Goals as goal

pub invariant_of-result : goal.invariant_of-result
invariant_of-result c = record {
  ascending =
      ap is_ascending (same_days c.in_ok-share_rows.field-0.items c.args.self.now.rows.items (c.in_ok-share_rows.ensures.rows ∙ ap rows_view c.as_slice.ensures.value))
      ∙ c.args.self.now.ascending;
  goes_on = tt;
}
