-- The line at the end is told.
use Rattle.lawdesk.specs.Serving.{told_front}
use Rattle.lawdesk.proofs.serving.end_said.Goals as goal

pub returns : goal.returns
returns g c = record {
  said = c.tell-said.result;
  tells = c.tell-said.ensures.told (told_front c.args.front c.args.outcome.failed c.args.faulted) c.report_front.ensures;
  status_told = c.ended_status.ensures;
}
