use Rattle.akn_json.proofs.Values.{of_json-kept}
use Rattle.akn_json.proofs.laws.borrowed_is_read.Goals as goal

pub returns : goal.returns
returns c = of_json-kept
