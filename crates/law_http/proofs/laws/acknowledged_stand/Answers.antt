use Rattle.law_http.proofs.Answered.{acknowledged_stand}
use Rattle.law_http.proofs.laws.acknowledged_stand.Goals as goal

pub returns : goal.returns
returns g c = acknowledged_stand g.D.Desk.state g.D.Desk.crashes g.D.Desk.past
