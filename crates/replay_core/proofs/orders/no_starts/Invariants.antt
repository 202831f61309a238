-- No days so far, and none of the rest.
use Rattle.std.proofs.Common.{◌≡◌, ◌++◌, drop, map}
use Rattle.replay_core.specs.Starts.{no_start}
use Rattle.replay_core.proofs.orders.no_starts.Given as goal

abbrev pub invariant-loop-known : goal.invariant-loop-known
invariant-loop-known l = l.all.items ++ map no_start (drop l.known-index l.mods) ≡ map no_start l.mods
