-- Where there were no workers, nothing is told.
use Rattle.desk_serving.specs.Work.{is_broken, is_wanting}
use Rattle.lawdesk.proofs.ServingRuns.{ended_unsaid}
use Rattle.lawdesk.proofs.serving.end_served.Goals as goal

pub returns-in-None : goal.returns-in-None
returns-in-None g c =
    ended_unsaid g.W.Sink.written g.W.Sink.faults c.args.over.now.front (is_wanting c.args.over.now.outcome)
    (is_broken c.args.over.now.outcome) c.args.over.now.faulted c.args.sink.now
