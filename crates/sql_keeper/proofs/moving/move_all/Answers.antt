use Rattle.std.proofs.Common.{Err, ◌∙◌}
use Rattle.std.proofs.lemmas.Result.{err_from_is_err_and}
use Rattle.law_keeper.proofs.Moments.{keeps_both}
use Rattle.sql_keeper.proofs.Composing.{cause_from, cause_of_first, cause_of_second, grows_on, grows_same, leaves, moves, not_opened, not_opened_to, not_walked, opened_grows, opened_leaves, opened_on, untouched, walked_grows}
use Rattle.sql_keeper.proofs.moving.move_all.Goals as goal

-- the first is not opened
pub returns-in_err-reopen-clause-moved : goal.returns-in_err-reopen-clause-moved
returns-in_err-reopen-clause-moved g c =
    let p = err_from_is_err_and c.from_residual.result c.from_residual.ensures.1 in
    rw (p.1, p.2) (λ told told_to. not_opened (g.A.Keeper.holding c.args.from.now).list (g.B.Keeper.holding c.args.to.now).list c.in_err-reopen.field-0.0 (c.in_err-reopen.ensures.found told).0)

pub returns-in_err-reopen-clause-same : goal.returns-in_err-reopen-clause-same
returns-in_err-reopen-clause-same g c = c.in_err-reopen.ensures.same

pub returns-in_err-reopen-clause-grows : goal.returns-in_err-reopen-clause-grows
returns-in_err-reopen-clause-grows g c = grows_same (g.B.Keeper.holding c.args.to.now)

pub returns-in_err-reopen-clause-crash : goal.returns-in_err-reopen-clause-crash
returns-in_err-reopen-clause-crash g c = c.in_err-reopen.ensures.crash

pub returns-in_err-reopen-clause-crash_to : goal.returns-in_err-reopen-clause-crash_to
returns-in_err-reopen-clause-crash_to g c = untouched (g.A.Keeper.holding c.args.from.now) (g.B.Keeper.holding c.args.to.now) (g.met.B.Keeper.is_holding c.args.to.now)

pub returns-in_err-reopen-clause-cause : goal.returns-in_err-reopen-clause-cause
returns-in_err-reopen-clause-cause g c =
    let p = err_from_is_err_and c.from_residual.result c.from_residual.ensures.1 in
    rw (p.1, p.2) (cause_of_first (g.A.Keeper.readiness c.args.from.now) (g.A.Keeper.faults c.args.from.now) (g.A.Keeper.faults c.reopen.new.self) (g.B.Keeper.faults c.args.to.now) c.in_err-reopen.field-0.0 c.in_err-reopen.ensures.cause)

-- the second is not opened
pub returns-in_err-reopen-2-clause-moved : goal.returns-in_err-reopen-2-clause-moved
returns-in_err-reopen-2-clause-moved g c =
    let p = err_from_is_err_and c.from_residual-in_err-reopen-2.result c.from_residual-in_err-reopen-2.ensures.1 in
    rw (p.1, p.2) (λ told told_to.
    not_opened_to (g.A.Keeper.holding c.args.from.now).list (g.B.Keeper.holding c.args.to.now).list (g.B.Keeper.holding c.reopen-2.new.self).list c.in_err-reopen-2.field-0.0
    (c.in_err-reopen-2.ensures.same.list told_to) (c.in_err-reopen-2.ensures.found told_to).0)

pub returns-in_err-reopen-2-clause-same : goal.returns-in_err-reopen-2-clause-same
returns-in_err-reopen-2-clause-same g c = c.in_ok-reopen.ensures.same

pub returns-in_err-reopen-2-clause-grows : goal.returns-in_err-reopen-2-clause-grows
returns-in_err-reopen-2-clause-grows g c = opened_grows (g.B.Keeper.holding c.args.to.now) (g.B.Keeper.holding c.reopen-2.new.self) c.in_err-reopen-2.ensures.same

pub returns-in_err-reopen-2-clause-crash : goal.returns-in_err-reopen-2-clause-crash
returns-in_err-reopen-2-clause-crash g c = c.in_ok-reopen.ensures.crash

pub returns-in_err-reopen-2-clause-crash_to : goal.returns-in_err-reopen-2-clause-crash_to
returns-in_err-reopen-2-clause-crash_to g c =
    opened_leaves (g.A.Keeper.holding c.args.from.now) (g.B.Keeper.holding c.args.to.now) (g.B.Keeper.holding c.reopen-2.new.self) c.in_err-reopen-2.ensures.crash

pub returns-in_err-reopen-2-clause-cause : goal.returns-in_err-reopen-2-clause-cause
returns-in_err-reopen-2-clause-cause g c =
    let p = err_from_is_err_and c.from_residual-in_err-reopen-2.result c.from_residual-in_err-reopen-2.ensures.1 in
    rw (p.1, p.2) (cause_of_second (g.B.Keeper.readiness c.args.to.now) (g.A.Keeper.faults c.args.from.now) (g.A.Keeper.faults c.reopen.new.self) (g.B.Keeper.faults c.args.to.now) (g.B.Keeper.faults c.reopen-2.new.self)
    c.in_err-reopen-2.field-0.0 c.in_ok-reopen.ensures.cause c.in_err-reopen-2.ensures.cause)

-- both are opened
pub walk_both-requires-clause-ready : goal.walk_both-requires-clause-ready
walk_both-requires-clause-ready g c = (c.in_ok-reopen.ensures.ready, c.in_ok-reopen-2.ensures.ready)

pub walk_both-requires-clause-settled : goal.walk_both-requires-clause-settled
walk_both-requires-clause-settled g c = (c.in_ok-reopen.ensures.settled c.in_ok-reopen.ensures.ready, c.in_ok-reopen-2.ensures.settled c.in_ok-reopen-2.ensures.ready)

-- the walk ends before the second does
pub returns-in_err-end-clause-moved : goal.returns-in_err-end-clause-moved
returns-in_err-end-clause-moved g c =
    let h = g.A.Keeper.holding in
    let h_to = g.B.Keeper.holding in
    let p = err_from_is_err_and c.from_residual-in_err-end.result c.from_residual-in_err-end.ensures.1 in
    rw (p.1, p.2) (λ told told_to.
    not_walked (h c.args.from.now).list (h c.reopen.new.self).list (h_to c.args.to.now).list (h_to c.reopen-2.new.self).list (h_to c.walk_both.new.to).list (h c.walk_both.new.from).place_of c.in_err-end.field-0.0
    (c.in_ok-reopen.ensures.same.list told) (c.in_ok-reopen-2.ensures.same.list told_to) (c.in_err-end.ensures.same_to.list (c.in_ok-reopen-2.ensures.same.tells.0 told_to))
    (c.in_err-end.ensures.agreed (c.in_ok-reopen.ensures.same.tells.0 told) (c.in_ok-reopen-2.ensures.same.tells.0 told_to)))

pub returns-in_err-end-clause-same : goal.returns-in_err-end-clause-same
returns-in_err-end-clause-same g c =
    keeps_both (g.A.Keeper.holding c.args.from.now) (g.A.Keeper.holding c.reopen.new.self) (g.A.Keeper.holding c.walk_both.new.from) c.in_ok-reopen.ensures.same c.in_err-end.ensures.same

pub returns-in_err-end-clause-grows : goal.returns-in_err-end-clause-grows
returns-in_err-end-clause-grows g c =
    walked_grows (g.B.Keeper.holding c.args.to.now) (g.B.Keeper.holding c.reopen-2.new.self) (g.B.Keeper.holding c.walk_both.new.to) c.in_ok-reopen-2.ensures.same c.in_err-end.ensures.same_to

pub returns-in_err-end-clause-crash : goal.returns-in_err-end-clause-crash
returns-in_err-end-clause-crash g c =
    opened_on (g.A.Keeper.holding c.args.from.now) (g.A.Keeper.holding c.reopen.new.self) (g.A.Keeper.holding c.walk_both.new.from) c.in_ok-reopen.ensures.crash c.in_err-end.ensures.crash

pub returns-in_err-end-clause-crash_to : goal.returns-in_err-end-clause-crash_to
returns-in_err-end-clause-crash_to g c =
    let h_to = g.B.Keeper.holding in
    opened_leaves (g.A.Keeper.holding c.args.from.now) (h_to c.args.to.now) (h_to c.walk_both.new.to)
    (opened_on (h_to c.args.to.now) (h_to c.reopen-2.new.self) (h_to c.walk_both.new.to) c.in_ok-reopen-2.ensures.crash c.in_err-end.ensures.crash_to)

pub returns-in_err-end-clause-cause : goal.returns-in_err-end-clause-cause
returns-in_err-end-clause-cause g c =
    let p = err_from_is_err_and c.from_residual-in_err-end.result c.from_residual-in_err-end.ensures.1 in
    rw (p.1, p.2) (cause_from (g.A.Keeper.faults c.args.from.now) (g.A.Keeper.faults c.reopen.new.self) (g.A.Keeper.faults c.walk_both.new.from)
    (g.B.Keeper.faults c.args.to.now) (g.B.Keeper.faults c.reopen-2.new.self) (g.B.Keeper.faults c.walk_both.new.to) (Err c.in_err-end.field-0.0)
    c.in_ok-reopen.ensures.cause c.in_ok-reopen-2.ensures.cause c.in_err-end.ensures.cause)

-- what the second lacks is appended
pub append_rest-requires-clause-ready : goal.append_rest-requires-clause-ready
append_rest-requires-clause-ready g c = c.in_ok-end.ensures.ready

pub append_rest-requires-clause-settled : goal.append_rest-requires-clause-settled
append_rest-requires-clause-settled g c = c.in_ok-end.ensures.settled

pub returns-clause-moved : goal.returns-clause-moved
returns-clause-moved g c =
    let h = g.A.Keeper.holding in
    let h_to = g.B.Keeper.holding in
    moves (h c.args.from.now) (h c.reopen.new.self) (h c.walk_both.new.from) (h_to c.args.to.now) (h_to c.reopen-2.new.self) (h_to c.walk_both.new.to) (h_to c.append_rest.new.to) c.in_ok-end.end
    c.in_ok-reopen.ensures.same c.in_ok-end.ensures.same c.in_ok-reopen-2.ensures.same c.in_ok-end.ensures.same_to c.in_ok-end.ensures.agreed c.append_rest.result c.append_rest.ensures.added

pub returns-clause-crash_to : goal.returns-clause-crash_to
returns-clause-crash_to g c =
    let h = g.A.Keeper.holding in
    let h_to = g.B.Keeper.holding in
    leaves (h c.args.from.now) (h c.reopen.new.self) (h c.walk_both.new.from) (h_to c.args.to.now) (h_to c.reopen-2.new.self) (h_to c.walk_both.new.to) (h_to c.append_rest.new.to) c.in_ok-end.end
    c.in_ok-reopen.ensures.same c.in_ok-end.ensures.same c.in_ok-reopen-2.ensures.same c.in_ok-end.ensures.same_to c.in_ok-end.ensures.agreed
    c.in_ok-reopen-2.ensures.crash c.in_ok-end.ensures.crash_to c.append_rest.ensures.crash_to

pub returns-clause-same : goal.returns-clause-same
returns-clause-same g c =
    let h = g.A.Keeper.holding in
    keeps_both (h c.args.from.now) (h c.walk_both.new.from) (h c.append_rest.new.from)
    (keeps_both (h c.args.from.now) (h c.reopen.new.self) (h c.walk_both.new.from) c.in_ok-reopen.ensures.same c.in_ok-end.ensures.same) c.append_rest.ensures.same

pub returns-clause-grows : goal.returns-clause-grows
returns-clause-grows g c =
    let h_to = g.B.Keeper.holding in
    grows_on (h_to c.args.to.now) (h_to c.walk_both.new.to) (h_to c.append_rest.new.to)
    (keeps_both (h_to c.args.to.now) (h_to c.reopen-2.new.self) (h_to c.walk_both.new.to) c.in_ok-reopen-2.ensures.same c.in_ok-end.ensures.same_to) c.append_rest.ensures.grows

pub returns-clause-crash : goal.returns-clause-crash
returns-clause-crash g c =
    let h = g.A.Keeper.holding in
    opened_on (h c.args.from.now) (h c.walk_both.new.from) (h c.append_rest.new.from)
    (opened_on (h c.args.from.now) (h c.reopen.new.self) (h c.walk_both.new.from) c.in_ok-reopen.ensures.crash c.in_ok-end.ensures.crash) c.append_rest.ensures.crash

pub returns-clause-ready : goal.returns-clause-ready
returns-clause-ready g c = c.append_rest.ensures.ready

pub returns-clause-settled : goal.returns-clause-settled
returns-clause-settled g c = c.append_rest.ensures.settled

pub returns-clause-cause : goal.returns-clause-cause
returns-clause-cause g c =
    cause_from (g.A.Keeper.faults c.args.from.now) (g.A.Keeper.faults c.walk_both.new.from) (g.A.Keeper.faults c.append_rest.new.from)
    (g.B.Keeper.faults c.args.to.now) (g.B.Keeper.faults c.walk_both.new.to) (g.B.Keeper.faults c.append_rest.new.to) c.append_rest.result
    (c.in_ok-end.ensures.cause.0 ∙ c.in_ok-reopen.ensures.cause) (c.in_ok-end.ensures.cause.1 ∙ c.in_ok-reopen-2.ensures.cause) c.append_rest.ensures.cause
