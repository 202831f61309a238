use Rattle.std.proofs.Common.{sym, subst}
use Rattle.law_register.specs.Answer.Answers.{Answers}
use Rattle.version_cache.specs.Seen.{work_view}
use Rattle.version_cache.proofs.Answered.{answered}
use Rattle.version_cache.proofs.work_tables.WorkTables.answer.Goals as goal

pub returns : goal.returns
returns g c =
    subst (Answers c.answer_kept.result)
    (sym (answered c.args.register.now.entries c.args.question.now (work_view c.args.self.now) c.entries_are_legal.ensures c.requires.ahead c.requires.right))
    c.answer_kept.ensures
