-- The way up from the number reached, in the steps that are left, ends as the whole way does.
use Rattle.std.proofs.Common.{◌≡◌}
use Rattle.act_tree.specs.Arena.{climbs_past}
use Rattle.act_tree.specs.Slots.{laid}
use Rattle.act_tree.proofs.arena.Arena.climbs_past.Given as goal

abbrev pub invariant-loop-steps : goal.invariant-loop-steps
invariant-loop-steps l = climbs_past l.steps (laid l.self.slots.items) l.gone l.id ≡ climbs_past l.initial.steps (laid l.self.slots.items) l.gone l.initial.id

abbrev pub decreases-loop-steps : goal.decreases-loop-steps
decreases-loop-steps l = l.steps
