use Rattle.turn_lock.proofs.Readings.{one_turn}
use Rattle.turn_lock.proofs.laws.one_has_the_turn.Goals as goal

pub returns : goal.returns
returns g c = one_turn g.T.Held.history g.T.Held.origin
