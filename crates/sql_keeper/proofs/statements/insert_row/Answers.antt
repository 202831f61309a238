use Rattle.std.proofs.Common.{◌≡◌, Ok, Err, sym, ◌∙◌}
use Rattle.std.proofs.Common.{w64}
use Rattle.std.proofs.lemmas.Int.{to_z_pos}
use Rattle.sqlite.specs.Held.{state}
use Rattle.sql_keeper.specs.declared.open_refused.OpenRefused.TheVariants.{Memory}
use Rattle.sql_keeper.proofs.Rests.{open_is_clean, puts}
use Rattle.sql_keeper.proofs.statements.insert_row.Goals as goal

pub returns-in-Ok-clause-put : goal.returns-in-Ok-clause-put
returns-in-Ok-clause-put g c = λ live.
    let old = state g.S.Store c.args.connection.now in
    let new = state g.S.Store c.execute.new.self in
    puts old new c.args.number c.args.payload.now (Ok c.in-Ok.field-0)
    (rw (c.params-to_sql.ensures, c.params-to_sql-2.ensures, c.in_ok-id.ensures.value, to_z_pos w64 c.args.number c.in_ok-id.ensures.fits) at (c.in-Ok.ensures.runs (open_is_clean new.is_open new.is_clean (g.met.S.Store.shut_if_dirty c.execute.new.self.store) live))) live

pub returns-in-Err-clause-put : goal.returns-in-Err-clause-put
returns-in-Err-clause-put g c = λ live.
    let old = state g.S.Store c.args.connection.now in
    let new = state g.S.Store c.execute.new.self in
    puts old new c.args.number c.args.payload.now (Err c.in-Err.error)
    (rw (c.params-to_sql.ensures, c.params-to_sql-2.ensures, c.in_ok-id.ensures.value, to_z_pos w64 c.args.number c.in_ok-id.ensures.fits) at (c.in-Err.ensures.runs (open_is_clean new.is_open new.is_clean (g.met.S.Store.shut_if_dirty c.execute.new.self.store) live))) live

pub returns-in-Err-clause-wants : goal.returns-in-Err-clause-wants
returns-in-Err-clause-wants g c = λ is.
    let same : c.refusal_of.result ≡ Memory = cc in (
      c.in-Err.error,
      sym c.refusal_of.ensures.told ∙ same,
      λ clean. rw (c.params-to_sql.ensures, c.params-to_sql-2.ensures, c.in_ok-id.ensures.value, to_z_pos w64 c.args.number c.in_ok-id.ensures.fits) at (c.in-Err.ensures.runs clean),
    )
