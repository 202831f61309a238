use Rattle.entry_codec.specs.Modifications.{num_pair}
use Rattle.entry_codec.proofs.Loops.{goes_on}
use Rattle.entry_codec.proofs.reading.reader.Reader.each_pair.Goals as goal

pub loop-preserved : goal.loop-preserved
loop-preserved c =
    goes_on num_pair.read c.loop.pairs c.args.count c.loop.counter c.loop.self.left.now _ _ c.push.new.self _
    c.loop-test.true c.in_ok-wid.ensures c.in_ok-push.ensures.ok c.loop.invariant
