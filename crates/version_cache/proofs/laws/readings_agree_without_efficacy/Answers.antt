use Rattle.version_cache.proofs.OneOrder.{one_order}
use Rattle.version_cache.proofs.laws.readings_agree_without_efficacy.Goals as goal

pub returns : goal.returns
returns c = one_order c.args._known.now c.requires
