use Rattle.replay_core.proofs.Turning.{forces-ordered}
use Rattle.replay_core.proofs.on_day.OnDay.force_of.Goals as goal

pub force_at-requires : goal.force_at-requires
force_at-requires c = rw c.forces.ensures (forces-ordered c.args.thing.now c.args.self.now.day c.args.self.now.known.now.mods)
