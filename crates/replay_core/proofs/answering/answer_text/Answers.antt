use Rattle.std.proofs.Common.{ap}
use Rattle.law_register.specs.Answer.Answers.{asked_day}
use Rattle.law_register.specs.Answer.Replay.{VersionValue}
use Rattle.replay_core.proofs.EidsOnce.{eids_once}
use Rattle.replay_core.proofs.answering.answer_text.Goals as goal

pub answer_from-requires : goal.answer_from-requires
answer_from-requires c =
    eids_once c.requires.known c.args.question.now.reading (asked_day c.args.question.now.version c.args.known.now.act) c.args.version.now.tree
    (ap (λ (v : VersionValue). v.tree) c.requires.is)
