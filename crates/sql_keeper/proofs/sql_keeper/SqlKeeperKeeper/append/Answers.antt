use Rattle.std.proofs.Common.{ap, subst, inr, ◌∙◌, is_ok, Ok}
use Rattle.law_keeper.specs.Keepers.{Appends, IsWithOrWithout, LeavesOneOfTwo}
use Rattle.sql_keeper.specs.SqlKeepers.{HeldKeeper, holding_of, list_in}
use Rattle.sql_keeper.proofs.Holdings.{in_order, still_listed, longer_list, with_payload, appended, settled, leaves}
use Rattle.sql_keeper.proofs.sql_keeper.SqlKeeperKeeper.append.Goals as goal

pub invariant_of-self : goal.invariant_of-self
invariant_of-self g c = λ t.
    let old = c.self.inside in
    let new = c.append_to.new.connection in
    let found = g.O.Opener.list old.opener in
    let ready = ap (λ (k : HeldKeeper g.row.O.Denot g.row.O-Store.Denot). k.readiness) c.self.view_is ∙ c.requires.ready in
    let list = longer_list g.O.Store.Store found old.connection new c.args.payload.now old.rows c.in-Ok.rows c.in-Ok.ensures.appended (g.met.O.Opener.stays_open old.opener t) ((c.self.invariant t).list ready) c.requires.size in
    record { in_order = in_order g.O.Store.Store new list.0; opened = λ _. ap is_ok list.1.1; list = λ _. list }

pub returns-in-Ok-clause-appended : goal.returns-in-Ok-clause-appended
returns-in-Ok-clause-appended g c =
    let old = c.self.inside in
    let new = c.append_to.new.connection in
    let payload = c.args.payload.now in
    let told = g.O.Opener.tells in
    let found = g.O.Opener.list in
    let ready = ap (λ (k : HeldKeeper g.row.O.Denot g.row.O-Store.Denot). k.readiness) c.self.view_is ∙ c.requires.ready in
    subst (λ (k : HeldKeeper g.row.O.Denot g.row.O-Store.Denot). Appends payload (holding_of g.O.Store.Store (told k.opener) (found k.opener) k.connection) (holding_of g.O.Store.Store (told old.opener) (found old.opener) new) (Ok c.in-Ok.rows)) c.self.view_is
    (appended g.O.Store.Store (told old.opener) (found old.opener) old.connection new payload old.rows c.in-Ok.rows c.in-Ok.ensures.appended (g.met.O.Opener.stays_open old.opener) (λ t. (c.self.invariant t).list ready) c.requires.size)

pub returns-in-Ok-clause-crash : goal.returns-in-Ok-clause-crash
returns-in-Ok-clause-crash g c =
    let old = c.self.inside in
    let new = c.append_to.new.connection in
    let payload = c.args.payload.now in
    let told = g.O.Opener.tells in
    let found = g.O.Opener.list in
    let ready = ap (λ (k : HeldKeeper g.row.O.Denot g.row.O-Store.Denot). k.readiness) c.self.view_is ∙ c.requires.ready in
    subst (λ (k : HeldKeeper g.row.O.Denot g.row.O-Store.Denot). LeavesOneOfTwo payload (holding_of g.O.Store.Store (told k.opener) (found k.opener) k.connection) (holding_of g.O.Store.Store (told old.opener) (found old.opener) new)) c.self.view_is
    (λ t.
    let stays = g.met.O.Opener.stays_open old.opener t in
    let list = (c.self.invariant t).list ready in
    let more = longer_list g.O.Store.Store (found old.opener) old.connection new payload old.rows c.in-Ok.rows c.in-Ok.ensures.appended stays list c.requires.size in
    leaves g.O.Store.Store g.met.O.Store.Store.settled (IsWithOrWithout (list_in g.O.Store.Store (found old.opener) old.connection) payload) (told old.opener) (found old.opener) old.connection new stays (in_order g.O.Store.Store new more.0)
    (inr (with_payload g.O.Store.Store (found old.opener) old.connection new payload old.rows c.in-Ok.rows c.in-Ok.ensures.appended stays list c.requires.size)) t)

pub returns-in-Ok-clause-settled : goal.returns-in-Ok-clause-settled
returns-in-Ok-clause-settled g c = λ _.
    let old = c.self.inside in
    let new = c.append_to.new.connection in
    let found = g.O.Opener.list old.opener in
    let ready = ap (λ (k : HeldKeeper g.row.O.Denot g.row.O-Store.Denot). k.readiness) c.self.view_is ∙ c.requires.ready in
    settled g.O.Store.Store g.met.O.Store.Store.settled (g.O.Opener.tells old.opener) found new c.in-Ok.rows (g.met.O.Opener.stays_open old.opener)
    (λ t. longer_list g.O.Store.Store found old.connection new c.args.payload.now old.rows c.in-Ok.rows c.in-Ok.ensures.appended (g.met.O.Opener.stays_open old.opener t) ((c.self.invariant t).list ready) c.requires.size)

pub returns-in-Err-Memory-clause-settled : goal.returns-in-Err-Memory-clause-settled
returns-in-Err-Memory-clause-settled g c = λ _.
    let old = c.self.inside in
    let new = c.append_to.new.connection in
    let found = g.O.Opener.list old.opener in
    let ready = ap (λ (k : HeldKeeper g.row.O.Denot g.row.O-Store.Denot). k.readiness) c.self.view_is ∙ c.requires.ready in
    settled g.O.Store.Store g.met.O.Store.Store.settled (g.O.Opener.tells old.opener) found new old.rows (g.met.O.Opener.stays_open old.opener) (λ t.
    let list = (c.self.invariant t).list ready in
    let it = c.in-Err-Memory.ensures.appended (g.met.O.Opener.stays_open old.opener t) list.0 found in
    still_listed g.O.Store.Store found old.connection new old.rows it.0 it.1 list)
