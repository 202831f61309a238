use Rattle.law_http.proofs.Repeating.{repeated}
use Rattle.law_http.proofs.laws.repeat_changes_nothing.Goals as goal

pub returns : goal.returns
returns c = repeated
