use Rattle.std.proofs.Common.{Some}
use Rattle.replay_core.proofs.Grouping.{group_put}
use Rattle.replay_core.proofs.counted.put.Goals as goal

pub returns-clause-new : goal.returns-clause-new
returns-clause-new c = λ t.
    group_put c.insert.new.self.entries c.args.groups.now.entries (Some c.args.group) c.in_ok-copy.field-0 c.args.thing.now t c.in_ok-copy.ensures (c.in_ok-insert.ensures.updates.0 t)
