use Rattle.source_provisions.proofs.Enacted.{enacting_is_free}
use Rattle.source_provisions.proofs.laws.acts_on_which_none_depends_cost_nothing.Goals as goal

pub returns : goal.returns
returns c = enacting_is_free
