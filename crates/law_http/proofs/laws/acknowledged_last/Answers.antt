use Rattle.law_http.proofs.Answered.{acknowledged_last}
use Rattle.law_http.proofs.laws.acknowledged_last.Goals as goal

pub returns : goal.returns
returns g c = acknowledged_last g.D.Desk.state g.D.Desk.crashes g.D.Desk.past g.met.D.Desk.are_crashes
