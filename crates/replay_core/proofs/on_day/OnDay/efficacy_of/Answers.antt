use Rattle.replay_core.proofs.Turning.{efficacies-ordered}
use Rattle.replay_core.proofs.on_day.OnDay.efficacy_of.Goals as goal

pub efficacy_at-requires : goal.efficacy_at-requires
efficacy_at-requires c = rw c.efficacies.ensures (efficacies-ordered c.args.thing.now c.args.self.now.day c.args.self.now.known.now.mods)
