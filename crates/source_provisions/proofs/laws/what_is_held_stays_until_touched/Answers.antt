use Rattle.source_provisions.proofs.HeldNow.{early_version, held_sound}
use Rattle.source_provisions.proofs.laws.what_is_held_stays_until_touched.Goals as goal

pub returns-clause-sound : goal.returns-clause-sound
returns-clause-sound c = held_sound

pub returns-clause-texts : goal.returns-clause-texts
returns-clause-texts c = λ entries entry work reading day old new legal was is early. early_version entries entry legal work old new was is reading day early
