-- The ids of those passed, and those of the rest.
use Rattle.std.proofs.Common.{◌≡◌, ◌++◌, map}
use Rattle.replay_core.proofs.order.ids_of.Given as goal

abbrev pub invariant-loop-due : goal.invariant-loop-due
invariant-loop-due l = l.ids ++ map (λ due. due.id) l.due-iterator ≡ map (λ due. due.id) l.dues.keys
