use Rattle.bearing_mods.proofs.Folds.{force_in_parts}
use Rattle.bearing_mods.proofs.laws.force_goes_on.Goals as goal

pub returns : goal.returns
returns c = force_in_parts c.args._base c.args._first.now c.args._later.now
