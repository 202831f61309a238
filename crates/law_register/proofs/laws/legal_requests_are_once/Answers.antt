use Rattle.law_register.proofs.Once.{legal_once}
use Rattle.law_register.proofs.laws.legal_requests_are_once.Goals as goal

pub returns : goal.returns
returns c = legal_once
