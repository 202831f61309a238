use Rattle.std.proofs.Common.{subst}
use Rattle.entry_codec.specs.Typed.{IsText}
use Rattle.entry_codec.proofs.TypedParts.{more_typed}
use Rattle.entry_codec.proofs.typed.texts_are_typed.Goals as goal

pub loop-one-preserved : goal.loop-one-preserved
loop-one-preserved c =
    let l = c.loop-one in
    more_typed IsText c.args.texts.now l.one-index c.one-item.result c.loop-one-test.true c.one-item.is l.invariant (subst IsText c.as_str.ensures c.text_is_typed.ensures)
