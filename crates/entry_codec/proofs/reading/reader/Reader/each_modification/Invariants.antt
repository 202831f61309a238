-- What is read so far, with what the rest gives behind it, is what all give.
use Rattle.std.proofs.Common.{◌≡◌, ◌-◌}
use Rattle.entry_codec.specs.Fields.{each_read}
use Rattle.entry_codec.specs.Formats.{format_in}
use Rattle.entry_codec.specs.Modifications.{modification}
use Rattle.entry_codec.proofs.Loops.{with_front}
use Rattle.entry_codec.proofs.reading.reader.Reader.each_modification.Given as goal

abbrev pub invariant-loop : goal.invariant-loop
invariant-loop l = with_front l.mods (each_read (modification (format_in l.format)).read (l.count - l.counter) l.self.left.now) ≡ each_read (modification (format_in l.format)).read l.count l.fn.self.left.now
