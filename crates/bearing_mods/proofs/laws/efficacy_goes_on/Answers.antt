use Rattle.bearing_mods.proofs.Folds.{efficacy_in_parts}
use Rattle.bearing_mods.proofs.laws.efficacy_goes_on.Goals as goal

pub returns : goal.returns
returns c = efficacy_in_parts c.args._force c.args._first.now c.args._later.now
