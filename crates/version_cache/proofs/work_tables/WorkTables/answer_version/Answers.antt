use Rattle.std.proofs.Common.{◌∙◌, sym, ap, subst}
use Rattle.law_register.specs.Answer.Answers.{Answers, answer_of_text, asked_day}
use Rattle.law_register.specs.Answer.Replay.{VersionValue, replay_on}
use Rattle.law_register.specs.Provisions.Carrying.{held_now}
use Rattle.version_cache.specs.Seen.{work_view}
use Rattle.version_cache.proofs.Answered.{version_of}
use Rattle.version_cache.proofs.work_tables.WorkTables.answer_version.Goals as goal

pub answer_text-requires : goal.answer_text-requires
answer_text-requires g c =
    let made = version_of (held_now c.args._register.now.entries c.args.question.now.work) (work_view c.args.self.now) c.requires.right c.args.question.now.reading c.args.day in
    record {
      known = made.known;
      of_act = made.of_act;
      is = c.on-version.ensures.version ∙ made.is
          ∙ ap (replay_on made.known c.args.question.now.reading) (sym (ap (λ version. asked_day version c.args.self.now.known.act) c.requires.day));
    }

pub returns : goal.returns
returns g c =
    subst (λ (version : VersionValue). Answers c.answer_text.result (answer_of_text c.args.self.now.known version c.args.question.now)) c.on-version.ensures.version
    c.answer_text.ensures
