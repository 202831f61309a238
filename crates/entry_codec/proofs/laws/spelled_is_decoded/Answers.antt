use Rattle.entry_codec.proofs.Decoding.{spelled_decoding}
use Rattle.entry_codec.proofs.laws.spelled_is_decoded.Goals as goal

pub returns : goal.returns
returns c = spelled_decoding
