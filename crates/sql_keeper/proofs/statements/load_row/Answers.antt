use Rattle.std.proofs.Common.{w64}
use Rattle.std.proofs.lemmas.Int.{to_z_pos}
use Rattle.sqlite.specs.Held.{state}
use Rattle.sql_keeper.proofs.Rests.{open_is_clean}
use Rattle.sql_keeper.proofs.Loads.{gives, gives_nothing}
use Rattle.sql_keeper.proofs.statements.load_row.Goals as goal

pub returns-in-Ok-clause-given : goal.returns-in-Ok-clause-given
returns-in-Ok-clause-given g c = λ live.
    let old = state g.S.Store c.args.connection.now in
    let new = state g.S.Store c.query_row.new.self in
    gives old new c.args.number c.in-Ok.row c.copy_payload.new.into.items c.copy_payload.result c.copy_payload.ensures.copied
    (rw (c.params-to_sql.ensures, c.in_ok-id.ensures.value, to_z_pos w64 c.args.number c.in_ok-id.ensures.fits) at (c.in-Ok.ensures.row (open_is_clean new.is_open new.is_clean (g.met.S.Store.shut_if_dirty c.query_row.new.self.store) live))) live

pub returns-in-Err-clause-given : goal.returns-in-Err-clause-given
returns-in-Err-clause-given g c = λ live.
    let old = state g.S.Store c.args.connection.now in
    let new = state g.S.Store c.query_row.new.self in
    gives_nothing old new c.args.number c.in-Err.error
    (rw (c.params-to_sql.ensures, c.in_ok-id.ensures.value, to_z_pos w64 c.args.number c.in_ok-id.ensures.fits) at (c.in-Err.ensures.row (open_is_clean new.is_open new.is_clean (g.met.S.Store.shut_if_dirty c.query_row.new.self.store) live))) live
