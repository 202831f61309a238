use Rattle.law_follow.proofs.Handed.{read_at}
use Rattle.law_follow.proofs.following.next_frame.Goals as goal

pub returns-in-Ok-clause-read : goal.returns-in-Ok-clause-read
returns-in-Ok-clause-read g c =
    read_at c.args.place (g.S.Source.left c.args.source.now) (g.S.Source.left c.read_frame.new.source) c.in-Ok.next c.in-Ok.ensures.read
