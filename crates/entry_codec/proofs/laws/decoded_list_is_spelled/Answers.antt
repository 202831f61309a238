use Rattle.entry_codec.proofs.Decoding.{decoded_bytes}
use Rattle.entry_codec.proofs.laws.decoded_list_is_spelled.Goals as goal

pub returns : goal.returns
returns c = decoded_bytes
