use Rattle.bearing_mods.proofs.Folds.{inapplied_at, none_holds}
use Rattle.bearing_mods.proofs.laws.inapplied_day_has_no_efficacy.Goals as goal

pub returns : goal.returns
returns c =
    let (k, within, is) = c.requires.counted in
    none_holds _ _ (inapplied_at c.args._counted.now c.args._one c.args._day k within is c.requires.inapplied)
