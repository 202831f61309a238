use Rattle.std.proofs.Common.{[], rules, refl, Ok, Bool, subst, ◌-◌}
use Rattle.std.proofs.lemmas.Result.{err_from_is_err_and}
use Rattle.sqlite.specs.State.{HasCleanDisk}
use Rattle.sqlite.specs.Held.{Held, state}
use Rattle.sql_keeper.specs.Tables.{list_of, rows_text}
use Rattle.sql_keeper.specs.Connections.{CountsRows, StepsOn}
use Rattle.sql_keeper.proofs.Rests.{open_is_clean, not_queried}
use Rattle.sql_keeper.proofs.Steps.{begun, refused_query, none_counted, walked_on, walked_to_end, walked_to_fault}
use Rattle.sql_keeper.proofs.statements.count_rows.Goals as goal

pub returns-in-Err-clause-counted : goal.returns-in-Err-clause-counted
returns-in-Err-clause-counted g c = λ live has.
    let old = state g.S.Store c.args.connection.now in
    let new = c.query.follows.lender-at-none in
    let s = state g.S.Store new in
    let clean : HasCleanDisk s = open_is_clean s.is_open s.is_clean (g.met.S.Store.shut_if_dirty new.store) live in
    (not_queried old s has.0 live rows_text [] c.in-Err.error (refused_query g.S.Store rows_text [] c.args.connection.now new c.in-Err.error c.query.result c.in-Err.is c.query.follows.holds-at-none clean), none_counted (list_of old.now) c.refusal_of.result c.from.result c.from.ensures)

pub rows-init : goal.rows-init
rows-init g c =
    let new = c.in-Ok.rows.conn.now in
    let s = state g.S.Store new in
    (refl, refl, begun g.S.Store c.args.connection.now new (λ live. c.in-Ok.ensures.begun (open_is_clean s.is_open s.is_clean (g.met.S.Store.shut_if_dirty new.store) live)))

pub returns-in_err-has_entry-clause-counted : goal.returns-in_err-has_entry-clause-counted
returns-in_err-has_entry-clause-counted g c =
    let first = c.args.connection.now in
    let p = err_from_is_err_and c.from_residual.result c.from_residual.ensures.1 in
    subst (λ (h : Held g.row.S.Denot). CountsRows (state g.S.Store first) (state g.S.Store h) c.from_residual.result) {x = c.has_entry.new.rows.conn.now} {y = c.connection-in_err-has_entry-1.given.0} (search rules)
    (rw (p.1, p.2) (walked_to_fault g.S.Store first c.rows.rows.conn.now c.has_entry.new.rows.conn.now c.rows.number c.rows.invariant.2 c.has_entry.ensures.was_open c.in_err-has_entry.field-0.0 c.in_err-has_entry.ensures.steps))

pub returns-then-not-branch-clause-counted : goal.returns-then-not-branch-clause-counted
returns-then-not-branch-clause-counted g c =
    let first = c.args.connection.now in
    let now = c.rows.rows.conn.now in
    let next = c.has_entry.new.rows.conn.now in
    let step = subst (λ (b : Bool). StepsOn g.S.Store now next c.rows.number (Ok b)) c.if-not-branch.true c.in_ok-has_entry.ensures.steps in
    subst (λ (h : Held g.row.S.Denot). CountsRows (state g.S.Store first) (state g.S.Store h) (Ok (c.rows.number - 1))) {x = next} {y = c.connection-then-not-branch-1.given.0} (search rules)
    (walked_to_end g.S.Store first now next c.rows.number c.rows.invariant.2 c.has_entry.ensures.was_open step)

pub rows-preserved : goal.rows-preserved
rows-preserved g c =
    let first = c.args.connection.now in
    let now = c.rows.rows.conn.now in
    let next = c.has_entry.new.rows.conn.now in
    let step = subst (λ (b : Bool). StepsOn g.S.Store now next c.rows.number (Ok b)) c.if-not-branch.false c.in_ok-has_entry.ensures.steps in
    (search rules, search rules, walked_on g.S.Store first now next c.rows.number c.rows.invariant.2 c.has_entry.ensures.was_open step)
