use Rattle.entry_codec.proofs.Lengths.{entry_long}
use Rattle.entry_codec.proofs.laws.spelling_has_its_size.Goals as goal

pub returns : goal.returns
returns c = entry_long
