-- Those passed are due from their new days, the others from their old ones.
use Rattle.std.proofs.Common.{◌≡◌, ◌++◌, take, drop}
use Rattle.replay_core.specs.Starts.{due_by}
use Rattle.replay_core.proofs.orders.change_all.Given as goal

abbrev pub invariant-loop-index : goal.invariant-loop-index
invariant-loop-index l = l.dues.keys ≡ due_by l.mods (take l.index l.news ++ drop l.index l.olds)
