use Rattle.std.proofs.Common.{subst}
use Rattle.akn_json.specs.Printing.Typed.{IsTypedText}
use Rattle.akn_json.proofs.TypedParts.{more_typed}
use Rattle.akn_json.proofs.printing.typed.texts_are_typed.Goals as goal

pub loop-one-preserved : goal.loop-one-preserved
loop-one-preserved c =
    let l = c.loop-one in
    more_typed IsTypedText c.args.texts.now l.one-index c.one-item.result c.loop-one-test.true c.one-item.is l.invariant
    (subst IsTypedText c.as_str.ensures c.text_is_typed.ensures)
