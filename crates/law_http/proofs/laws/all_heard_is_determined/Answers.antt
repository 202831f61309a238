use Rattle.law_http.proofs.Determined.{all_same}
use Rattle.law_http.proofs.laws.all_heard_is_determined.Goals as goal

pub returns : goal.returns
returns c = all_same
