use Rattle.law_http.proofs.Faultless.{determined}
use Rattle.law_http.proofs.laws.served_without_fault_is_determined.Goals as goal

pub returns : goal.returns
returns g c = determined g.D.Desk.state g.D.Desk.crashes g.D.Desk.past g.D.Desk.judging
