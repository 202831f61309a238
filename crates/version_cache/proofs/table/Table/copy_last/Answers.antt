use Rattle.std.proofs.Common.{◌∙◌, ap}
use Rattle.std.proofs.lemmas.Result.{IfOk-weaker}
use Rattle.version_cache.specs.Rows.{kept_view}
use Rattle.version_cache.specs.Tables.{last_version}
use Rattle.version_cache.proofs.RowFronts.{stay_is}
use Rattle.version_cache.proofs.table.Table.copy_last.Goals as goal

pub returns-clause-last : goal.returns-clause-last
returns-clause-last c =
    IfOk-weaker c.copy.result _ _
    (λ copy e. e ∙ c.version.ensures.same ∙ c.last_kept.ensures
    ∙ ap (last_version (kept_view c.args.self.now.enacted))
    (stay_is c.args.touched c.args.self.now.rows.items c.as_slice.result.now c.as_slice-2.result.now c.split_at-stay.result.0.now c.count_rows_before-kept.result
    c.args.self.now.ascending c.as_slice.ensures.value c.as_slice-2.ensures.value c.count_rows_before-kept.ensures.count c.split_at-stay.ensures.front))
    c.copy.ensures.version
