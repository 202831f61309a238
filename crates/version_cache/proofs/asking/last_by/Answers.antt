use Rattle.std.proofs.Common.{◌∙◌, ap, refl}
use Rattle.version_cache.specs.Rows.{kept_view}
use Rattle.version_cache.specs.Tables.{last_version}
use Rattle.version_cache.proofs.RowFronts.{until_is}
use Rattle.version_cache.proofs.asking.last_by.Goals as goal

pub returns : goal.returns
returns c =
    c.last_kept.ensures
    ∙ ap (last_version (kept_view c.args.before.now))
    (until_is c.args.day c.args.rows.now c.args.rows.now c.split_at-parts.result.0.now c.count_until-count.result c.requires refl c.count_until-count.ensures.count
    c.split_at-parts.ensures.front)
