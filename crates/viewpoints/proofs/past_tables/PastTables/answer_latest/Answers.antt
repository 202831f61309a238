use Rattle.std.proofs.Common.{sym, subst}
use Rattle.law_register.specs.Answer.Answers.{Answers}
use Rattle.viewpoints.proofs.Bringing.{first_right, none_first}
use Rattle.viewpoints.proofs.Stale.{answered}
use Rattle.viewpoints.proofs.past_tables.PastTables.answer_latest.Goals as goal

pub answer_dated-requires : goal.answer_dated-requires
answer_dated-requires g c =
    (first_right c.args._register.now.entries c.args.question.now g.T.Dated.version_on c.args.self.now c.in-Some.kept.now c.requires.right c.requires.first c.in-Some.ensures).versions

pub unreachable-requires : goal.unreachable-requires
unreachable-requires g c =
    none_first c.args._register.now.entries c.args.question.now g.T.Dated.version_on c.args.self.now c.requires.first c.in-None.ensures

pub returns : goal.returns
returns g c =
    let right = first_right c.args._register.now.entries c.args.question.now g.T.Dated.version_on c.args.self.now c.in-Some.kept.now c.requires.right c.requires.first c.in-Some.ensures in
    subst (Answers c.answer_dated.result) (sym (answered g.T.Dated.version_on c.args._register.now.entries c.args.question.now c.in-Some.kept.now c.requires.dated right)) c.answer_dated.ensures
