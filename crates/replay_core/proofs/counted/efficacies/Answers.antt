use Rattle.std.proofs.Common.{sym, ap}
use Rattle.replay_core.specs.Groups.{efficacies_of}
use Rattle.replay_core.proofs.Grouping.{none_found}
use Rattle.replay_core.proofs.counted.efficacies.Goals as goal

pub returns-then-is_empty : goal.returns-then-is_empty
returns-then-is_empty c = sym (ap efficacies_of (none_found c.args.groups.now.entries c.args.thing.now (c.is_empty.ensures.0 c.if-is_empty.true)))
