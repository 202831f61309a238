use Rattle.std.proofs.Common.{Result, ℕ, subst, sym, Err}
use Rattle.desk_base.specs.declared.load_fault.LoadFault.{LoadFault}
use Rattle.law_journal.specs.Grammar.{Listing}
use Rattle.law_keeper.specs.Keepers.{Finds}
use Rattle.sql_keeper.specs.SqlKeepers.{HeldKeeper, HasList, ListsRows, holding_of, list_in}
use Rattle.sql_keeper.proofs.Holdings.{counted_list, no_damage, settled}
use Rattle.sql_keeper.proofs.sql_keeper.SqlKeeperKeeper.reopen.Goals as goal

pub returns-in-Ok-clause-settled : goal.returns-in-Ok-clause-settled
returns-in-Ok-clause-settled g c = λ _.
    let old = c.self.inside in
    let opening = c.open_rows-opening in
    let now = opening.new.opener in
    let new = opening.new.connection in
    let same = opening.ensures.same in
    settled g.O.Store.Store g.met.O.Store.Store.settled (g.O.Opener.tells now) (g.O.Opener.list now) new c.in-Ok.rows (g.met.O.Opener.stays_open now) (λ t.
    let told = same.0.1 t in
    let lists = subst (λ (r : Result ℕ LoadFault). ListsRows g.O.Store.Store (g.O.Opener.list old.opener) old.connection new r) c.in-Ok.is (opening.ensures.opened told) in
    subst (λ (found : Listing). HasList g.O.Store.Store found new c.in-Ok.rows) (sym same.1)
    (counted_list g.O.Store.Store (g.O.Opener.list old.opener) old.connection new c.in-Ok.rows lists (g.met.O.Opener.stays_open old.opener told) (c.self.invariant told).in_order))

pub returns-in-Err-clause-found : goal.returns-in-Err-clause-found
returns-in-Err-clause-found g c =
    let old = c.self.inside in
    let opening = c.open_rows-opening in
    let new = opening.new.connection in
    let told = g.O.Opener.tells in
    let found = g.O.Opener.list in
    subst (λ (k : HeldKeeper g.row.O.Denot g.row.O-Store.Denot). Finds k.readiness (holding_of g.O.Store.Store (told k.opener) (found k.opener) k.connection) (Err c.in-Err.fault)) c.self.view_is
    (λ t.
    let lists = subst (λ (r : Result ℕ LoadFault). ListsRows g.O.Store.Store (found old.opener) old.connection new r) c.in-Err.is (opening.ensures.opened t) in
    let kept = c.self.invariant t in
    let tells = (lists (g.met.O.Opener.stays_open old.opener t) kept.in_order).2 in
    (tells, λ was. no_damage (list_in g.O.Store.Store (found old.opener) old.connection) c.in-Err.fault (kept.opened was) tells))
