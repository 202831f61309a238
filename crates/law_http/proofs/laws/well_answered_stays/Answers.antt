use Rattle.law_http.proofs.Connected.{stays_well}
use Rattle.law_http.proofs.laws.well_answered_stays.Goals as goal

pub returns : goal.returns
returns c = stays_well
