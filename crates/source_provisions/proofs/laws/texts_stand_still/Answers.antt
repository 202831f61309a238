use Rattle.source_provisions.proofs.StandingStill.{order_stands_still}
use Rattle.source_provisions.proofs.laws.texts_stand_still.Goals as goal

pub returns : goal.returns
returns c = order_stands_still
