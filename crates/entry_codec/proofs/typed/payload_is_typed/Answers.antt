use Rattle.entry_codec.proofs.typed.payload_is_typed.Goals as goal

pub returns : goal.returns
returns c = λ low. c.nodes_are_typed.ensures.typed
