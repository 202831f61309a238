use Rattle.law_follow.proofs.Catching.{catches_up}
use Rattle.law_follow.proofs.laws.follower_catches_up.Goals as goal

pub returns : goal.returns
returns c = λ front rest from legal within. catches_up front rest from legal within
