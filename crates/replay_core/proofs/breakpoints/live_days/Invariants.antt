-- The days of those passed, from the last on, stand in their places.
use Rattle.std.proofs.Common.{◌≡◌, drop}
use Rattle.law_register.specs.Answer.Breakpoints.{live_days}
use Rattle.replay_core.proofs.breakpoints.live_days.Given as goal

abbrev pub invariant-loop-index : goal.invariant-loop-index
invariant-loop-index l = l.days.keys ≡ live_days (drop l.index l.mods)
