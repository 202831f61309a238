use Rattle.source_provisions.proofs.Reckoned.{reckoned_right}
use Rattle.source_provisions.proofs.laws.what_is_to_be_held_is_there.Goals as goal

pub returns : goal.returns
returns c = reckoned_right
