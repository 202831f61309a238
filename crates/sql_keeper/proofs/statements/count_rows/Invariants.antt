use Rattle.std.proofs.Common.{◌≡◌}
use Rattle.sql_keeper.proofs.Steps.{Walks}
use Rattle.sql_keeper.proofs.statements.count_rows.Given as goal

abbrev pub invariant-rows : goal.invariant-rows
invariant-rows g l =
    (l.faults ≡ l.initial.faults) × (l.rows.conn.ghost_name ≡ l.initial.rows.conn.ghost_name) × Walks g.S.Store l.fn.connection l.rows.conn.now l.number
