use Rattle.entry_codec.proofs.Standing.{standing_written}
use Rattle.entry_codec.proofs.writing.entries.put_standing.Goals as goal

pub returns-clause-bytes : goal.returns-clause-bytes
returns-clause-bytes c = standing_written c.args.format c.args.entry.now _ _ _ _ c.number.ensures c.in_ok-push.ensures.items c.in_ok-put_fields.ensures.bytes
