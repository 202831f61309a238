use Rattle.std.proofs.Common.{ap, ◌∙◌}
use Rattle.sql_keeper.specs.SqlKeepers.{HeldKeeper}
use Rattle.sql_keeper.proofs.Holdings.{still_listed, settled}
use Rattle.sql_keeper.proofs.sql_keeper.SqlKeeperKeeper.load.Goals as goal

pub returns-clause-settled : goal.returns-clause-settled
returns-clause-settled g c = λ _.
    let old = c.self.inside in
    let new = c.load_at-loaded.new.connection in
    let found = g.O.Opener.list old.opener in
    let ready = ap (λ (k : HeldKeeper g.row.O.Denot g.row.O-Store.Denot). k.readiness) c.self.view_is ∙ c.requires in
    settled g.O.Store.Store g.met.O.Store.Store.settled (g.O.Opener.tells old.opener) found new old.rows (g.met.O.Opener.stays_open old.opener) (λ t.
    let list = (c.self.invariant t).list ready in
    let it = c.load_at-loaded.ensures.given (g.met.O.Opener.stays_open old.opener t) list.0 found in
    still_listed g.O.Store.Store found old.connection new old.rows it.0 it.1 list)
