use Rattle.law_register.proofs.BareActs.{kept_for_nothing, stays_as_enacted}
use Rattle.law_register.proofs.replay_laws.bare_acts_stay.Goals as goal

pub returns-clause-versions : goal.returns-clause-versions
returns-clause-versions c = stays_as_enacted c.args._known.now c.requires c.args._reading

pub returns-clause-costs : goal.returns-clause-costs
returns-clause-costs c = kept_for_nothing c.args._known.now c.requires
