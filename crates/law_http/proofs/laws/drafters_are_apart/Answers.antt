use Rattle.law_http.proofs.Apart.{same_bytes}
use Rattle.law_http.proofs.laws.drafters_are_apart.Goals as goal

pub returns : goal.returns
returns c = same_bytes
