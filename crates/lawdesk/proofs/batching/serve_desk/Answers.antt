-- A stream leaves a desk what it was lent.
use Rattle.lawdesk.proofs.Stepping.{served_origin}
use Rattle.lawdesk.proofs.batching.serve_desk.Goals as goal

pub returns-clause-origin : goal.returns-clause-origin
returns-clause-origin g c =
    let served = c.serve_stream.ensures.served in
    served_origin g.D.Desk.state g.D.Desk.crashes g.D.Desk.past served.exchanges _ _ served.answered
