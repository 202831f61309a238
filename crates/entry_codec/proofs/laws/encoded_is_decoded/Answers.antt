use Rattle.entry_codec.proofs.Decoding.{spelled_decoding}
use Rattle.entry_codec.proofs.KeptRules.{entry_kept}
use Rattle.entry_codec.proofs.laws.encoded_is_decoded.Goals as goal

pub returns : goal.returns
returns c =
    let kept = entry_kept c.args.entry.now c.entry_is_typed.ensures c.requires.able c.requires.well in
    record { kept = kept; again = spelled_decoding c.args.entry.now kept }
