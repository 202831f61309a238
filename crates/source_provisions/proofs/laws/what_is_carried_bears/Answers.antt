use Rattle.source_provisions.proofs.Carrying.{carried_costs, carried_days, carried_orders, carried_versions}
use Rattle.source_provisions.proofs.laws.what_is_carried_bears.Goals as goal

pub returns-clause-orders : goal.returns-clause-orders
returns-clause-orders c = carried_orders

pub returns-clause-versions : goal.returns-clause-versions
returns-clause-versions c = carried_versions

pub returns-clause-days : goal.returns-clause-days
returns-clause-days c = carried_days

pub returns-clause-costs : goal.returns-clause-costs
returns-clause-costs c = carried_costs
