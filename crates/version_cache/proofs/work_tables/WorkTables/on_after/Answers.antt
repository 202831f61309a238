use Rattle.std.proofs.Common.{rules, ◌≡◌, ◌∙◌, option_map}
use Rattle.law_register.specs.Answer.Versions.{version_view}
use Rattle.version_cache.specs.Seen.{work_revision_view, work_view}
use Rattle.version_cache.specs.Tables.{version_on}
use Rattle.version_cache.specs.Works.{WorkValue, renewed_if, table_in}
use Rattle.version_cache.proofs.Renewed.{gives_replay}
use Rattle.version_cache.proofs.work_tables.WorkTables.on_after.Goals as goal

pub returns-in-Force-clause-replay : goal.returns-in-Force-clause-replay
returns-in-Force-clause-replay c =
    let after : WorkValue = renewed_if (work_view c.args.self.now) (option_map (λ r. work_revision_view r.now) c.args.revision) in
    let version : version_view c.on_after.result.now ≡ version_on (table_in c.args.reading after) c.args.day = search rules in
    λ known is. version ∙ gives_replay known after c.args.reading c.args.day is

pub returns-in-Efficacy-clause-replay : goal.returns-in-Efficacy-clause-replay
returns-in-Efficacy-clause-replay c =
    let after : WorkValue = renewed_if (work_view c.args.self.now) (option_map (λ r. work_revision_view r.now) c.args.revision) in
    let version : version_view c.on_after-in-Efficacy.result.now ≡ version_on (table_in c.args.reading after) c.args.day = search rules in
    λ known is. version ∙ gives_replay known after c.args.reading c.args.day is
