use Rattle.std.proofs.Common.{◌∙◌, ap, nat_le}
use Rattle.std.specs.List.{list_all}
use Rattle.version_cache.specs.Days.{is_ascending}
use Rattle.version_cache.specs.Rows.{rows_view}
use Rattle.version_cache.proofs.Going.{none_behind}
use Rattle.version_cache.proofs.RowDays.{same_days}
use Rattle.version_cache.proofs.table.Table.revise_like.Goals as goal

pub invariant_of-result : goal.invariant_of-result
invariant_of-result c =
    let same = same_days c.in_ok-share_rows.field-0.items c.args.other.now.rows.items (c.in_ok-share_rows.ensures.rows ∙ ap rows_view c.as_slice-2.ensures.value) in
    record {
      ascending = ap is_ascending same ∙ c.args.other.now.ascending;
      late = ap (list_all (λ day. nat_le c.args.other.now.touched day)) same ∙ c.args.other.now.late;
      room = c.in_ok-share_rows.ensures.room;
      goes_on = none_behind (rows_view c.in_ok-share_rows.field-0.items);
    }
