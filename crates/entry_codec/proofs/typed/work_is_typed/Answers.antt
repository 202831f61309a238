use Rattle.std.proofs.Common.{subst}
use Rattle.entry_codec.specs.Typed.{IsText}
use Rattle.entry_codec.proofs.TypedParts.{work_typed}
use Rattle.entry_codec.proofs.typed.work_is_typed.Goals as goal

pub returns : goal.returns
returns c =
    work_typed c.args.work.now c.date.result c.date.ensures c.works_are_short.ensures (subst IsText c.as_str.ensures c.text_is_typed.ensures)
