use Rattle.law_register.specs.Register.Indexes.{with_standing}
use Rattle.law_register.proofs.Changing.{id_changed}
use Rattle.law_register.proofs.register.marks.set_standing.Goals as goal

pub returns-in-Some : goal.returns-in-Some
returns-in-Some c = λ i.
    let mark = c.with_standing.result in
    id_changed (with_standing c.args.standing) (c.get_mut.follows.lender mark).entries c.args.ids.now.entries c.args.id i _ mark c.in-Some.ensures.value c.with_standing.ensures
    (c.get_mut.follows.holds mark).0
