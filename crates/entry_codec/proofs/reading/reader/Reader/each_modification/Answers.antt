use Rattle.entry_codec.specs.Formats.{format_in}
use Rattle.entry_codec.specs.Modifications.{modification}
use Rattle.entry_codec.proofs.Loops.{goes_on}
use Rattle.entry_codec.proofs.reading.reader.Reader.each_modification.Goals as goal

pub loop-preserved : goal.loop-preserved
loop-preserved c =
    goes_on (modification (format_in c.args.format)).read c.loop.mods c.args.count c.loop.counter c.loop.self.left.now _ _ c.push.new.self _
    c.loop-test.true c.in_ok-modification.ensures c.in_ok-push.ensures.ok c.loop.invariant
