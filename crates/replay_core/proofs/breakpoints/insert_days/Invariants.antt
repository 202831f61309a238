-- Those passed, from the last on, stand in their places.
use Rattle.std.proofs.Common.{◌≡◌, drop}
use Rattle.law_register.specs.Answer.Breakpoints.{insert_days}
use Rattle.replay_core.proofs.breakpoints.insert_days.Given as goal

abbrev pub invariant-loop-index : goal.invariant-loop-index
invariant-loop-index l = l.days.keys ≡ insert_days (drop l.index l.new) l.initial.days.keys
