use Rattle.std.proofs.Common.{◌≡◌, ◌-◌, ◌^◌, ◌≤◌}
use Rattle.law_keeper.specs.declared.readiness.Readiness.TheVariants.{Ready}
use Rattle.sql_keeper.proofs.Moves.{HasCome, AgreesSoFar}
use Rattle.sql_keeper.proofs.moving.walk_both.Given as goal

abbrev pub invariant-walk : goal.invariant-walk
invariant-walk g l = record {
  come : HasCome (g.A.Keeper.holding l.initial.from) (g.A.Keeper.holding l.from) l.cursor l.place;
  come_to : HasCome (g.B.Keeper.holding l.initial.to) (g.B.Keeper.holding l.to) l.cursor_to l.place;
  same : AgreesSoFar (g.A.Keeper.holding l.initial.from) (g.B.Keeper.holding l.initial.to) l.place;
  ready : g.A.Keeper.readiness l.from ≡ Ready;
  ready_to : g.B.Keeper.readiness l.to ≡ Ready;
  same_count : g.A.Keeper.faults l.from ≡ g.A.Keeper.faults l.initial.from;
  same_count_to : g.B.Keeper.faults l.to ≡ g.B.Keeper.faults l.initial.to;
  low : l.place ≤ l.cursor_to;
}

abbrev pub decreases-walk : goal.decreases-walk
decreases-walk g l = 2 ^ 64 - l.cursor_to
