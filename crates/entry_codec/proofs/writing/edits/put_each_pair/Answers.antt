use Rattle.entry_codec.specs.Modifications.{num_pair}
use Rattle.entry_codec.specs.Typed.{IsNumPair}
use Rattle.entry_codec.proofs.TypedParts.{more_written, more_typed}
use Rattle.entry_codec.proofs.writing.edits.put_each_pair.Goals as goal

pub loop-pair-preserved : goal.loop-pair-preserved
loop-pair-preserved c =
    let l = c.loop-pair in
    record {
      bytes = more_written num_pair.spell c.args.pairs.now l.pair-index c.pair-item.result _ _ _ c.loop-pair-test.true c.pair-item.is l.invariant.bytes c.in_ok-put_pair.ensures.bytes;
      typed = more_typed IsNumPair c.args.pairs.now l.pair-index c.pair-item.result c.loop-pair-test.true c.pair-item.is l.invariant.typed c.in_ok-put_pair.ensures.typed;
    }
