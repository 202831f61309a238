use Rattle.law_register.specs.Answer.Versions.{version_view}
use Rattle.law_register.proofs.Continuing.{replayed_on}
use Rattle.law_register.proofs.replay_laws.replay_goes_on.Goals as goal

pub returns : goal.returns
returns c = replayed_on c.args._known.now.mods (version_view c.args._version.now) c.args._first.now c.args._others.now
