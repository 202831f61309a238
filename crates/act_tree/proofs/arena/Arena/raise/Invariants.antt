-- The first of the numbers have the one right above them, and nothing else has changed.
use Rattle.std.proofs.Common.{◌≡◌}
use Rattle.act_tree.specs.Slots.{at, size}
use Rattle.act_tree.proofs.Settling.{FirstRaised}
use Rattle.act_tree.proofs.arena.Arena.raise.Given as goal

abbrev pub invariant-loop-id : goal.invariant-loop-id
invariant-loop-id l = FirstRaised (at l.initial.self) (at l.self) 0 l.ids 0 (λ k. l.above) l.id-index × ((l.self.numbers ≡ l.initial.self.numbers) × (size l.self ≡ size l.initial.self))
