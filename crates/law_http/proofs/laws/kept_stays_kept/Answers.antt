use Rattle.law_http.proofs.Growing.{kept_on, moments_on}
use Rattle.law_http.proofs.laws.kept_stays_kept.Goals as goal

pub returns : goal.returns
returns g c = record {
  kept = kept_on g.D.Desk.state g.D.Desk.crashes g.D.Desk.past;
  moments = moments_on g.D.Desk.state g.D.Desk.crashes g.D.Desk.past;
}
