use Rattle.std.proofs.Common.{◌≡◌, ◌-◌, ◌^◌, Ok}
use Rattle.law_keeper.specs.declared.readiness.Readiness.TheVariants.{Ready}
use Rattle.law_keeper.specs.Keepers.{IsSettled}
use Rattle.law_follow.specs.Opening as spec
use Rattle.law_follow.proofs.Loading.{HasOpened}
use Rattle.law_follow.proofs.opening.load_entries.Given as goal

abbrev pub invariant-walk : goal.invariant-walk
invariant-walk g l = record {
  opened : HasOpened (g.K.Keeper.holding l.initial.keeper) (g.K.Keeper.holding l.keeper) l.end l.register.entries;
  opens : spec.opened (spec.spellings l.register.entries) ≡ Ok l.register.entries;
  settled : IsSettled (g.K.Keeper.holding l.keeper);
  ready : g.K.Keeper.readiness l.keeper ≡ Ready;
  same_count : g.K.Keeper.faults l.keeper ≡ g.K.Keeper.faults l.initial.keeper;
}

abbrev pub decreases-walk : goal.decreases-walk
decreases-walk g l = 2 ^ 64 - l.end
