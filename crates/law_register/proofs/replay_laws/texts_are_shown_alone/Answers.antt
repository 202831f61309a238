use Rattle.law_register.specs.Answer.Versions.{version_view}
use Rattle.law_register.proofs.ShownAlone.{text_alone}
use Rattle.law_register.proofs.replay_laws.texts_are_shown_alone.Goals as goal

pub returns : goal.returns
returns c = text_alone c.args._known.now (version_view c.args._version.now) c.args._question.now
