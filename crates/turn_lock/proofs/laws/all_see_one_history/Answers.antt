use Rattle.turn_lock.proofs.Readings.{one_history}
use Rattle.turn_lock.proofs.laws.all_see_one_history.Goals as goal

pub returns : goal.returns
returns g c = one_history g.T.Held.history g.T.Held.origin
