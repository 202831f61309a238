-- What is read so far, with what the rest gives behind it, is what all give.
use Rattle.std.proofs.Common.{◌≡◌, ◌-◌}
use Rattle.entry_codec.specs.Fields.{each_read}
use Rattle.entry_codec.specs.Modifications.{num_pair}
use Rattle.entry_codec.proofs.Loops.{with_front}
use Rattle.entry_codec.proofs.reading.reader.Reader.each_pair.Given as goal

abbrev pub invariant-loop : goal.invariant-loop
invariant-loop l = with_front l.pairs (each_read num_pair.read (l.count - l.counter) l.self.left.now) ≡ each_read num_pair.read l.count l.fn.self.left.now
