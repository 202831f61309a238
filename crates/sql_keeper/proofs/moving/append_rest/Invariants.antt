use Rattle.std.proofs.Common.{◌≡◌, ◌-◌, ◌^◌, ◌≤◌}
use Rattle.law_keeper.specs.declared.readiness.Readiness.TheVariants.{Ready}
use Rattle.sql_keeper.proofs.Appending.{HasPassed, HasAdded}
use Rattle.sql_keeper.proofs.moving.append_rest.Given as goal

abbrev pub invariant-rest : goal.invariant-rest
invariant-rest g l = record {
  passed : HasPassed (g.A.Keeper.holding l.initial.from) (g.A.Keeper.holding l.from) l.fn.start l.cursor l.count;
  added : HasAdded (g.A.Keeper.holding l.initial.from) (g.B.Keeper.holding l.initial.to) (g.B.Keeper.holding l.to) l.fn.start l.count;
  ready : g.A.Keeper.readiness l.from ≡ Ready;
  ready_to : g.B.Keeper.readiness l.to ≡ Ready;
  same_count : g.A.Keeper.faults l.from ≡ g.A.Keeper.faults l.initial.from;
  same_count_to : g.B.Keeper.faults l.to ≡ g.B.Keeper.faults l.initial.to;
  low : l.count ≤ l.cursor;
}

abbrev pub decreases-rest : goal.decreases-rest
decreases-rest g l = 2 ^ 64 - l.cursor
