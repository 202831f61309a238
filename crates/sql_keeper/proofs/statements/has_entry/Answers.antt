use Rattle.sqlite.specs.Held.{state}
use Rattle.sqlite.specs.State.{HasCleanDisk}
use Rattle.sqlite.specs.Given.{row_if}
use Rattle.sql_keeper.proofs.Rests.{open_is_clean, unchanged}
use Rattle.sql_keeper.proofs.Steps.{stuck, stuck_open, none_next, some_next, end_next}
use Rattle.sql_keeper.proofs.statements.has_entry.Goals as goal

pub returns-in-Err-clause-steps : goal.returns-in-Err-clause-steps
returns-in-Err-clause-steps g c = λ live rest.
    let old = c.args.rows.now.conn.now in
    let new = c.advance.new.self.conn.now in
    let s = state g.S.Store new in
    let clean : HasCleanDisk s = open_is_clean s.is_open s.is_clean (g.met.S.Store.shut_if_dirty new.store) live in
    (stuck (state g.S.Store old) s c.in-Err.error live rest (c.in-Err.ensures.kept clean), λ sql params given has. none_next g.S.Store old new sql params given c.args.number c.refusal_of.result c.from.result c.from.ensures)

pub returns-in-Some-clause-steps : goal.returns-in-Some-clause-steps
returns-in-Some-clause-steps g c = λ live rest.
    let old = c.args.rows.now.conn.now in
    let new = c.advance.new.self.conn.now in
    let s = state g.S.Store new in
    let clean : HasCleanDisk s = open_is_clean s.is_open s.is_clean (g.met.S.Store.shut_if_dirty new.store) live in (
      unchanged (state g.S.Store old) s rest live (c.in_default.ensures.same clean),
      λ sql params given has. some_next g.S.Store old new sql params given c.args.number c.in-Some.row.now (row_if c.advance.new.self.has_row new) c.check_entry.result c.in-Some.ensures (c.in_default.ensures.ok clean sql params given has) c.check_entry.ensures,
    )

pub returns-in-None-clause-steps : goal.returns-in-None-clause-steps
returns-in-None-clause-steps g c = λ live rest.
    let old = c.args.rows.now.conn.now in
    let new = c.advance.new.self.conn.now in
    let s = state g.S.Store new in
    let clean : HasCleanDisk s = open_is_clean s.is_open s.is_clean (g.met.S.Store.shut_if_dirty new.store) live in (
      unchanged (state g.S.Store old) s rest live (c.in_default.ensures.same clean),
      λ sql params given has. end_next g.S.Store old new sql params given c.args.number (row_if c.advance.new.self.has_row new) c.in-None.ensures (c.in_default.ensures.ok clean sql params given has),
    )

pub returns-in-Err-clause-was_open : goal.returns-in-Err-clause-was_open
returns-in-Err-clause-was_open g c = λ live.
    let old = state g.S.Store c.args.rows.now.conn.now in
    let new = c.advance.new.self.conn.now in
    let s = state g.S.Store new in
    stuck_open old s c.in-Err.error live (c.in-Err.ensures.kept (open_is_clean s.is_open s.is_clean (g.met.S.Store.shut_if_dirty new.store) live))

pub returns-in-Some-clause-was_open : goal.returns-in-Some-clause-was_open
returns-in-Some-clause-was_open g c = λ live.
    let new = c.advance.new.self.conn.now in
    let s = state g.S.Store new in
    (c.in_default.ensures.same (open_is_clean s.is_open s.is_clean (g.met.S.Store.shut_if_dirty new.store) live)).0.was_open

pub returns-in-None-clause-was_open : goal.returns-in-None-clause-was_open
returns-in-None-clause-was_open g c = λ live.
    let new = c.advance.new.self.conn.now in
    let s = state g.S.Store new in
    (c.in_default.ensures.same (open_is_clean s.is_open s.is_clean (g.met.S.Store.shut_if_dirty new.store) live)).0.was_open
