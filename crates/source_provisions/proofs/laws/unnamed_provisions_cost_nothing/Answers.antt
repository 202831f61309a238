use Rattle.source_provisions.proofs.Costs as costs
use Rattle.source_provisions.proofs.laws.unnamed_provisions_cost_nothing.Goals as goal

pub returns-clause-revising : goal.returns-clause-revising
returns-clause-revising c = λ works known reading touched none. costs.cost_alone works known none reading touched

pub returns-clause-holding : goal.returns-clause-holding
returns-clause-holding c = costs.held_for_nothing

pub returns-clause-untouched : goal.returns-clause-untouched
returns-clause-untouched c = costs.untouched_is_free
