use Rattle.law_office.proofs.AskedFor.{unknown_answer}
use Rattle.law_office.proofs.office.refuse_unknown.Goals as goal

pub returns : goal.returns
returns c =
    unknown_answer c.args.register.now.entries c.args.question.now c.in_ok-work.work c.entries_are_legal.ensures c.requires.unknown c.requires.ahead
    c.in_ok-work.ensures
