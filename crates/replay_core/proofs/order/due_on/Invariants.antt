-- Of those passed, from the last on, what is due is in the set.
use Rattle.std.proofs.Common.{◌≡◌, drop}
use Rattle.law_register.specs.Answer.Order.{due_of}
use Rattle.replay_core.proofs.order.due_on.Given as goal

abbrev pub invariant-loop-index : goal.invariant-loop-index
invariant-loop-index l = l.dues.keys ≡ due_of l.on.reading l.on.day l.on.known.now.mods (drop l.index l.on.known.now.mods)
