use Rattle.law_refs.proofs.Resting.{draft_hands_in_none, draft_moves_none}
use Rattle.law_refs.proofs.laws.drafts_hand_in_nothing.Goals as goal

pub returns-clause-moved : goal.returns-clause-moved
returns-clause-moved c = draft_moves_none

pub returns-clause-rows : goal.returns-clause-rows
returns-clause-rows c = draft_hands_in_none
