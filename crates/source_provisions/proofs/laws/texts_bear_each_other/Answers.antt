use Rattle.source_provisions.proofs.Ahead.{each_of_all}
use Rattle.source_provisions.proofs.laws.texts_bear_each_other.Goals as goal

pub returns : goal.returns
returns c = λ works reading day right. each_of_all works reading day right.ascends
