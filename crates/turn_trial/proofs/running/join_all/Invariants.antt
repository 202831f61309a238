use Rattle.turn_lock.specs.Passes.{IsPassOf}
use Rattle.turn_lock.specs.Turned.{id_of}
use Rattle.turn_trial.specs.Workers.{AllOf}
use Rattle.turn_trial.proofs.running.join_all.Given as goal

abbrev pub invariant-loop-place : goal.invariant-loop-place
invariant-loop-place l = IsPassOf (id_of l.turns) l.pass × AllOf (id_of l.turns) l.workers.items
