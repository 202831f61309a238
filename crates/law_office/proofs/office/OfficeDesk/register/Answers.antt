use Rattle.std.proofs.Common.{sym}
use Rattle.law_office.proofs.Images.{found_after}
use Rattle.law_office.proofs.office.OfficeDesk.register.Goals as goal

pub returns-clause-durable : goal.returns-clause-durable
returns-clause-durable g c =
    let office = c.self.inside in
    rw (sym c.self.view_is)
    (found_after office.book c.self.invariant.0 (g.K.Keeper.holding office.keeper.now) (g.K.Keeper.readiness office.keeper.now) c.self.invariant.1)
