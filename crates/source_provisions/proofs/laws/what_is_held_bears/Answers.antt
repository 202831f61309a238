use Rattle.std.proofs.Common.{ap}
use Rattle.law_register.specs.Answer.Order.{order}
use Rattle.source_provisions.proofs.HeldRight.{held_bears}
use Rattle.source_provisions.proofs.laws.what_is_held_bears.Goals as goal

pub returns : goal.returns
returns c = λ works known holding reading day right. ap (λ k. order k reading day) (held_bears works known holding right reading day)
