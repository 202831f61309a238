-- The days of those passed, and those of the rest.
use Rattle.std.proofs.Common.{◌≡◌, ◌++◌, drop}
use Rattle.replay_core.specs.Starts.{starts_of}
use Rattle.replay_core.proofs.orders.starts_of.Given as goal

abbrev pub invariant-loop-known : goal.invariant-loop-known
invariant-loop-known l =
    l.all.items ++ starts_of l.on.reading l.on.day l.on.known.now.mods (drop l.known-index l.on.known.now.mods)
    ≡ starts_of l.on.reading l.on.day l.on.known.now.mods l.on.known.now.mods
