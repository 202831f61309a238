use Rattle.law_http.proofs.Growing.{found_after}
use Rattle.law_http.proofs.laws.entries_last.Goals as goal

pub returns : goal.returns
returns g c = found_after g.D.Desk.state g.D.Desk.crashes g.D.Desk.past g.met.D.Desk.are_crashes
