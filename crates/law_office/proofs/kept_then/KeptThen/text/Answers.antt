use Rattle.std.proofs.Common.{◌∙◌, ap, option_map}
use Rattle.law_register.specs.Answer.Replay.{VersionValue}
use Rattle.version_cache.specs.Seen.{work_revision_view, work_view}
use Rattle.law_office.proofs.After.{enacted_kept}
use Rattle.law_office.proofs.kept_then.KeptThen.text.Goals as goal

pub returns-in-Some : goal.returns-in-Some
returns-in-Some c = rw c.in-Some.is (ap (λ (v : VersionValue). v.tree) c.on_after.ensures.version)

pub returns-in-None : goal.returns-in-None
returns-in-None c =
    let self = c.args.self.now in
    rw c.in-None.is
    (ap (λ (v : VersionValue). v.tree)
    (c.enacted.ensures.version ∙ enacted_kept (work_view self.kept.now) (option_map (λ r. work_revision_view r.now) self.revision) ∙ c.requires))
