use Rattle.law_office.proofs.Openings.{legal_is_opened, opened_more}
use Rattle.law_office.proofs.laws.spelled_entries_are_opened.Goals as goal

pub returns-clause-all : goal.returns-clause-all
returns-clause-all c = legal_is_opened

pub returns-clause-more : goal.returns-clause-more
returns-clause-more c = opened_more
