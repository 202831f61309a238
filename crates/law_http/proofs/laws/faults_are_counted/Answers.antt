use Rattle.law_http.proofs.Rising.{faults_rise}
use Rattle.law_http.proofs.laws.faults_are_counted.Goals as goal

pub returns : goal.returns
returns g c = faults_rise g.D.Desk.state g.D.Desk.crashes g.D.Desk.past
