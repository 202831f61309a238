use Rattle.std.proofs.Common.{sym}
use Rattle.law_office.proofs.Images.{found_now, found_after}
use Rattle.law_office.proofs.office.Office.close.Goals as goal

pub returns-clause-list : goal.returns-clause-list
returns-clause-list g c = rw (sym c.self.view_is) (c.self.invariant.1).list

pub returns-clause-found : goal.returns-clause-found
returns-clause-found g c =
    let office = c.self.inside in
    rw (sym c.self.view_is)
    (found_now office.book c.self.invariant.0 (g.K.Keeper.holding office.keeper.now) (g.K.Keeper.readiness office.keeper.now) c.self.invariant.1)

pub returns-clause-durable : goal.returns-clause-durable
returns-clause-durable g c =
    let office = c.self.inside in
    rw (sym c.self.view_is)
    (found_after office.book c.self.invariant.0 (g.K.Keeper.holding office.keeper.now) (g.K.Keeper.readiness office.keeper.now) c.self.invariant.1)

pub returns-clause-faults : goal.returns-clause-faults
returns-clause-faults g c = rw (sym c.self.view_is) c.self.invariant.3
