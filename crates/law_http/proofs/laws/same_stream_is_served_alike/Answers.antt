use Rattle.law_http.proofs.Faultless.{same_served}
use Rattle.law_http.proofs.laws.same_stream_is_served_alike.Goals as goal

pub returns : goal.returns
returns c = same_served
