use Rattle.law_http.proofs.Apart.{same_response}
use Rattle.law_http.proofs.laws.responses_are_apart.Goals as goal

pub returns : goal.returns
returns g c = same_response g.D.Desk.state g.D.Desk.crashes g.D.Desk.past g.E.Desk.state g.E.Desk.crashes g.E.Desk.past
