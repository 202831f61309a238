use Rattle.entry_codec.specs.Values.{expression}
use Rattle.entry_codec.specs.Typed.{IsText}
use Rattle.entry_codec.proofs.TypedParts.{more_written, more_typed}
use Rattle.entry_codec.proofs.writing.texts.put_each_ref.Goals as goal

pub loop-iri-preserved : goal.loop-iri-preserved
loop-iri-preserved c =
    let l = c.loop-iri in
    record {
      bytes = more_written expression.spell c.args.refs.now l.iri-index c.iri-item.result _ _ _ c.loop-iri-test.true c.iri-item.is l.invariant.bytes c.in_ok-put_expression.ensures.bytes;
      typed = more_typed IsText c.args.refs.now l.iri-index c.iri-item.result c.loop-iri-test.true c.iri-item.is l.invariant.typed c.in_ok-put_expression.ensures.typed;
    }
