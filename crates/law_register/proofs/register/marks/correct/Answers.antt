use Rattle.law_register.specs.Register.Indexes.{corrected}
use Rattle.law_register.proofs.Changing.{id_changed}
use Rattle.law_register.proofs.register.marks.correct.Goals as goal

pub returns-in-Some : goal.returns-in-Some
returns-in-Some c = λ i.
    let mark = c.corrected.result in
    id_changed (corrected c.args.at) (c.get_mut.follows.lender mark).entries c.args.ids.now.entries c.args.id i _ mark c.in-Some.ensures.value c.corrected.ensures
    (c.get_mut.follows.holds mark).0
