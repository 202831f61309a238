use Rattle.law_http.proofs.InTurn.{all_grow, all_keep_origin}
use Rattle.law_http.proofs.laws.history_only_grows.Goals as goal

pub returns : goal.returns
returns g c = record {
  history = all_grow g.D.Desk.state g.D.Desk.crashes g.D.Desk.past g.D.Held.history g.met.D.Desk.history_is;
  origin = all_keep_origin g.D.Desk.state g.D.Desk.crashes g.D.Desk.past g.D.Held.origin g.met.D.Desk.origin_is;
}
