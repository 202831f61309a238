use Rattle.std.proofs.Common.{◌∙◌, ◌++◌, ap, subst, sym}
use Rattle.law_register.specs.Answer.Replay.{VersionValue}
use Rattle.law_register.specs.Answer.Soundness.{IsReplayed, id_twice}
use Rattle.version_cache.proofs.making.continued.Goals as goal

pub go_on-requires-clause-replayed : goal.go_on-requires-clause-replayed
go_on-requires-clause-replayed g c = subst IsReplayed (sym c.requires.working) c.args.kept.now.replayed

pub go_on-requires-clause-apart : goal.go_on-requires-clause-apart
go_on-requires-clause-apart g c = ap (λ (v : VersionValue). id_twice (v.applied ++ c.args.ids.now)) c.requires.working ∙ c.requires.apart
