use Rattle.turn_lock.specs.Passes.{share_of, IsPassOf}
use Rattle.turn_lock.specs.Turned.{id_of}
use Rattle.turn_trial.specs.Workers.{AllOf}
use Rattle.turn_trial.proofs.running.split_all.Given as goal

abbrev pub invariant-loop-pass : goal.invariant-loop-pass
invariant-loop-pass l = IsPassOf (id_of l.turns) l.pass × AllOf (id_of l.turns) l.workers.items

abbrev pub decreases-loop-pass : goal.decreases-loop-pass
decreases-loop-pass l = share_of l.pass
