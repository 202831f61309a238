use Rattle.law_refs.proofs.Broken.{broken_dangle}
use Rattle.law_refs.proofs.laws.what_breaks_a_rule_dangles.Goals as goal

pub returns : goal.returns
returns c = broken_dangle
