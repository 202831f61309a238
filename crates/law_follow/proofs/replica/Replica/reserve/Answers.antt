use Rattle.law_follow.specs.declared.replica.Replica.{Replica}
use Rattle.law_follow.proofs.Committing.{reserved_right}
use Rattle.law_follow.proofs.replica.Replica.reserve.Goals as goal

pub returns-clause-right : goal.returns-clause-right
returns-clause-right c =
    let new : Replica = record c.args.self.now { register = c.reserve.new.self } in
    reserved_right c.args.self.now new c.requires.right c.reserve.ensures.entries c.requires.settled
