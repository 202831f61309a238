use Rattle.law_http.proofs.Growing.{entries_grow}
use Rattle.law_http.proofs.laws.entries_only_grow.Goals as goal

pub returns : goal.returns
returns g c = entries_grow g.D.Desk.state g.D.Desk.crashes g.D.Desk.past
