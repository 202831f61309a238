use Rattle.source_provisions.proofs.Ahead.{nothing_behind}
use Rattle.source_provisions.proofs.laws.works_behind_change_nothing.Goals as goal

pub returns : goal.returns
returns c = λ front behind reading day right. nothing_behind front behind reading day right.ascends
