-- The first of the numbers below the one have it right above them, and nothing else has changed.
use Rattle.std.proofs.Common.{◌≡◌}
use Rattle.act_tree.specs.Arena.{below_in}
use Rattle.act_tree.specs.Slots.{at, size}
use Rattle.act_tree.proofs.Settling.{FirstRaised}
use Rattle.act_tree.proofs.arena.Arena.settle.Given as goal

abbrev pub invariant-loop-place : goal.invariant-loop-place
invariant-loop-place l = FirstRaised (at l.initial.self) (at l.self) l.id (below_in (at l.initial.self l.id)) 0 (λ k. l.id) l.place × ((l.self.numbers ≡ l.initial.self.numbers) × (size l.self ≡ size l.initial.self))
