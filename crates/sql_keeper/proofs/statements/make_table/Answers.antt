use Rattle.std.proofs.Common.{◌≡◌, Ok, Err, sym, ◌∙◌}
use Rattle.sqlite.specs.Held.{state}
use Rattle.sql_keeper.specs.declared.open_refused.OpenRefused.TheVariants.{Memory}
use Rattle.sql_keeper.proofs.Rests.{open_is_clean, makes}
use Rattle.sql_keeper.proofs.statements.make_table.Goals as goal

pub returns-in-Ok-clause-made : goal.returns-in-Ok-clause-made
returns-in-Ok-clause-made g c = λ live.
    let old = state g.S.Store c.args.connection.now in
    let new = state g.S.Store c.execute.new.self in
    makes old new (Ok c.in-Ok.field-0) (c.in-Ok.ensures.runs (open_is_clean new.is_open new.is_clean (g.met.S.Store.shut_if_dirty c.execute.new.self.store) live)) live

pub returns-in-Err-clause-made : goal.returns-in-Err-clause-made
returns-in-Err-clause-made g c = λ live.
    let old = state g.S.Store c.args.connection.now in
    let new = state g.S.Store c.execute.new.self in
    makes old new (Err c.in-Err.error) (c.in-Err.ensures.runs (open_is_clean new.is_open new.is_clean (g.met.S.Store.shut_if_dirty c.execute.new.self.store) live)) live

pub returns-in-Err-clause-wants : goal.returns-in-Err-clause-wants
returns-in-Err-clause-wants g c = λ is. let same : c.refusal_of.result ≡ Memory = cc in (c.in-Err.error, sym c.refusal_of.ensures.told ∙ same, c.in-Err.ensures.runs)
