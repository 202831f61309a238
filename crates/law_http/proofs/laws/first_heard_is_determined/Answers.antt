use Rattle.law_http.proofs.Determined.{one_first}
use Rattle.law_http.proofs.laws.first_heard_is_determined.Goals as goal

pub returns : goal.returns
returns c = one_first
