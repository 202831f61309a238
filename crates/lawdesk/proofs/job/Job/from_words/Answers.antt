-- Words of which one begins with a dash are no form.
use Rattle.std.proofs.Common.{◌∙◌, map, sym}
use Rattle.std.specs.Prelude.{string_bytes}
use Rattle.lawdesk.proofs.Dashes.{dashed_is_none}
use Rattle.lawdesk.proofs.job.Job.from_words.Goals as goal

pub returns-then-has_dash-clause-job : goal.returns-then-has_dash-clause-job
returns-then-has_dash-clause-job c =
    sym (dashed_is_none (map string_bytes c.args.words.now) (sym c.has_dash.ensures ∙ c.if-has_dash.true))
