use Rattle.law_http.proofs.PutResponses.{reads_back}
use Rattle.law_http.proofs.laws.response_is_read_back.Goals as goal

pub returns : goal.returns
returns c = reads_back
