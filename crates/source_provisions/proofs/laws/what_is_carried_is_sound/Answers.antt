use Rattle.source_provisions.proofs.Carrying.{carried_sound}
use Rattle.source_provisions.proofs.laws.what_is_carried_is_sound.Goals as goal

pub returns : goal.returns
returns c = λ works known right sound. carried_sound works right known sound
