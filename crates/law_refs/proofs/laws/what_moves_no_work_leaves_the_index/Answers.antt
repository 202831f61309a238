use Rattle.law_refs.proofs.Resting.{index_rests, none_handed_in, none_judged}
use Rattle.law_refs.proofs.laws.what_moves_no_work_leaves_the_index.Goals as goal

pub returns-clause-rows : goal.returns-clause-rows
returns-clause-rows c = none_handed_in

pub returns-clause-steps : goal.returns-clause-steps
returns-clause-steps c = none_judged

pub returns-clause-index : goal.returns-clause-index
returns-clause-index c = index_rests
