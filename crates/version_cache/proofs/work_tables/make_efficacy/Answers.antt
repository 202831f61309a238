use Rattle.std.proofs.Common.{◌∙◌, ap, sym}
use Rattle.std.proofs.lemmas.Result.{IfOk-weaker}
use Rattle.version_cache.specs.Readings.{has_efficacy}
use Rattle.version_cache.specs.Seen.{table_view}
use Rattle.version_cache.proofs.OneVersion.{made_like}
use Rattle.version_cache.proofs.work_tables.make_efficacy.Goals as goal

pub returns-else-has_efficacy-clause-table : goal.returns-else-has_efficacy-clause-table
returns-else-has_efficacy-clause-table g c =
    IfOk-weaker c.share_in.result _ _
    (λ table e. made_like c.args.known.now (sym (c.has_efficacy.ensures ∙ ap has_efficacy c.as_slice.ensures) ∙ c.if-has_efficacy.false) (table_view c.args.force.now)
    (table_view table) c.requires.force e)
    c.share_in.ensures
