use Rattle.law_http.proofs.Growing.{found_among}
use Rattle.law_http.proofs.laws.crash_leaves_a_front_part.Goals as goal

pub returns : goal.returns
returns g c = found_among g.D.Desk.state g.D.Desk.crashes g.D.Desk.past g.met.D.Desk.are_crashes
