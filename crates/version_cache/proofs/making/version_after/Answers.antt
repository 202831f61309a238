use Rattle.std.proofs.Common.{◌∙◌, sym}
use Rattle.std.proofs.lemmas.Result.{IfOk-weaker}
use Rattle.version_cache.specs.Rows.{kept_view}
use Rattle.version_cache.proofs.Continued.{rest_apart, rest_makes}
use Rattle.version_cache.proofs.Fronts.{no_longer}
use Rattle.version_cache.proofs.making.version_after.Goals as goal

pub split_at-parts-requires : goal.split_at-parts-requires
split_at-parts-requires g c = no_longer c.args.before.now c.args.ids.now (sym c.begins_with.ensures ∙ c.if-begins_with.true)

pub continued-requires-clause-apart : goal.continued-requires-clause-apart
continued-requires-clause-apart g c =
    rest_apart c.args.course.now.known.now c.args.before.now c.args.ids.now (sym c.begins_with.ensures ∙ c.if-begins_with.true)
    (kept_view c.args.last.now) c.requires.last c.split_at-parts.result.1.now c.split_at-parts.ensures.back c.requires.once

pub returns-then-begins_with-clause-version : goal.returns-then-begins_with-clause-version
returns-then-begins_with-clause-version g c =
    IfOk-weaker c.continued.result _ _
    (λ k e. e
    ∙ rest_makes c.args.course.now.known.now c.args.before.now c.args.ids.now (sym c.begins_with.ensures ∙ c.if-begins_with.true)
    (kept_view c.args.last.now) c.requires.last c.split_at-parts.result.1.now c.split_at-parts.ensures.back)
    c.continued.ensures.version
