use Rattle.law_reports.proofs.CauseNames.{named_as_rules}
use Rattle.law_reports.proofs.laws.causes_are_named_as_rules.Goals as goal

pub returns : goal.returns
returns c = named_as_rules
