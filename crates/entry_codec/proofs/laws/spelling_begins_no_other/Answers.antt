use Rattle.entry_codec.proofs.Decoding.{no_front}
use Rattle.entry_codec.proofs.laws.spelling_begins_no_other.Goals as goal

pub returns : goal.returns
returns c = no_front
