use Rattle.law_register.specs.Answer.Versions.{version_view}
use Rattle.law_register.proofs.ShownAlike.{text_same}
use Rattle.law_register.proofs.replay_laws.texts_are_shown_alike.Goals as goal

pub returns : goal.returns
returns c = λ viewpoint front. text_same viewpoint front c.args._known.now (version_view c.args._version.now) c.args._question.now
