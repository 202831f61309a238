use Rattle.law_follow.proofs.Ahead.{stays_behind}
use Rattle.law_follow.proofs.gathering.gather_entry.Goals as goal

pub returns-in-Ok-clause-ahead : goal.returns-in-Ok-clause-ahead
returns-in-Ok-clause-ahead c =
    stays_behind c.args.replica.now c.reserve.new.self c.gather.new.replica c.args.batch.now c.gather.new.batch c.reserve.ensures.end
    c.reserve.ensures.entries c.gather.ensures.ahead
