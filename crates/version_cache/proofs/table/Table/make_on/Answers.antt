use Rattle.std.proofs.Common.{◌∙◌, ap}
use Rattle.version_cache.specs.Rows.{kept_view, rows_view}
use Rattle.version_cache.specs.Tables.{rows_on}
use Rattle.version_cache.proofs.Right.{made_is_right}
use Rattle.version_cache.proofs.RowDays.{made_ascend}
use Rattle.version_cache.proofs.table.Table.make_on.Goals as goal

pub invariant_of-result : goal.invariant_of-result
invariant_of-result g c = record {
  ascending =
      made_ascend c.args.known.now c.args.reading c.add_rows.new.rows.items
      (c.in_ok-add_rows.ensures.rows ∙ ap (rows_on c.args.known.now c.args.reading) c.requires.days);
  goes_on = tt;
}

pub returns-clause-right : goal.returns-clause-right
returns-clause-right g c =
    made_is_right c.args.known.now c.args.reading c.requires.sound.steady (kept_view c.in_ok-enacted.enacted) (rows_view c.add_rows.new.rows.items) c.in_ok-enacted.ensures
    (c.in_ok-add_rows.ensures.rows ∙ ap (rows_on c.args.known.now c.args.reading) c.requires.days)
