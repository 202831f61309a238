-- So many of the payloads stand behind the list, and a crash leaves no more than some of them.
use Rattle.std.proofs.Common.{◌≡◌, ◌+◌}
use Rattle.law_keeper.specs.declared.readiness.Readiness.TheVariants.{Ready}
use Rattle.law_keeper.specs.Keepers.{IsSettled, LeavesFront, bytes_of, size_of}
use Rattle.law_keeper.proofs.Several.{HasAdded}
use Rattle.law_keeper.proofs.keeper.Keeper.append_all.Given as goal

abbrev pub invariant-loop-payload : goal.invariant-loop-payload
invariant-loop-payload g l = record {
  added : HasAdded (bytes_of l.payloads) (l.payload-index + 1) (g.Self.Keeper.holding l.fn.self) (g.Self.Keeper.holding l.self);
  end : (g.Self.Keeper.holding l.fn.self).tells → (g.Self.Keeper.holding l.self).place_of l.end ≡ size_of (g.Self.Keeper.holding l.self).list;
  crash : LeavesFront (bytes_of l.payloads) (g.Self.Keeper.holding l.fn.self) (g.Self.Keeper.holding l.self);
  settled : IsSettled (g.Self.Keeper.holding l.self);
  ready : g.Self.Keeper.readiness l.self ≡ Ready;
  same_count : g.Self.Keeper.faults l.self ≡ g.Self.Keeper.faults l.fn.self;
}
