use Rattle.version_cache.proofs.LastDay.{order_by_last}
use Rattle.version_cache.proofs.laws.text_stands_still.Goals as goal

pub returns : goal.returns
returns c = λ day. order_by_last day c.args._known.now c.requires c.args._reading
