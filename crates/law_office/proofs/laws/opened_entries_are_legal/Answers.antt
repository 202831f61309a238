use Rattle.law_office.proofs.Legality.{opened_is_legal, opened_is_spelled, opened_keeps_rules}
use Rattle.law_office.proofs.laws.opened_entries_are_legal.Goals as goal

pub returns-clause-legal : goal.returns-clause-legal
returns-clause-legal c = opened_is_legal

pub returns-clause-spelled : goal.returns-clause-spelled
returns-clause-spelled c = opened_is_spelled

pub returns-clause-kept : goal.returns-clause-kept
returns-clause-kept c = opened_keeps_rules
