use Rattle.law_follow.specs.Worlds.{nothing}
use Rattle.law_follow.proofs.Worlds.{all_right, right_at_first, trusts}
use Rattle.law_follow.proofs.laws.follower_holds_a_front_of_its_leader.Goals as goal

pub returns-clause-register : goal.returns-clause-register
returns-clause-register c = λ events. (all_right events nothing right_at_first).legal

pub returns-clause-front : goal.returns-clause-front
returns-clause-front c = λ events. (all_right events nothing right_at_first).front

pub returns-clause-trusts : goal.returns-clause-trusts
returns-clause-trusts c = λ events. trusts _ (all_right events nothing right_at_first)
