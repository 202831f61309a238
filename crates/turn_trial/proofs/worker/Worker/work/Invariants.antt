use Rattle.turn_lock.specs.Passes.{IsPassOf}
use Rattle.turn_lock.specs.Turned.{id_of}
use Rattle.turn_trial.proofs.worker.Worker.work.Given as goal

abbrev pub invariant-loop : goal.invariant-loop
invariant-loop g l = IsPassOf (id_of l.turns) l.self.pass
