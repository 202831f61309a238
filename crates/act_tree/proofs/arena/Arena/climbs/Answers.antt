use Rattle.std.proofs.Common.{◌∙◌, ap}
use Rattle.act_tree.specs.Arena.{climbs_past}
use Rattle.act_tree.specs.Slots.{at, size}
use Rattle.act_tree.proofs.Climbing.{past_root}
use Rattle.act_tree.proofs.arena.Arena.climbs.Goals as goal

pub returns : goal.returns
returns c = c.climbs_past.ensures ∙ ap (λ g. climbs_past (size c.args.self.now) (at c.args.self.now) g c.args.id) c.root.ensures ∙ past_root (size c.args.self.now) (at c.args.self.now) c.args.id
