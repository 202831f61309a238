use Rattle.entry_codec.proofs.laws.decoded_is_encoded.Goals as goal

pub returns : goal.returns
returns c =
    let e = c.args.entry.now in
    let from = c.decoded_is_spelled.ensures in
    record { able = from.able e c.requires; well = from.well e c.requires; again = from.spelling e c.requires }
