use Rattle.std.proofs.Common.{◌≡◌, ◌≤◌, ◌-◌, length}
use Rattle.desk_base.proofs.Writes.{HasWritten}
use Rattle.desk_base.proofs.writer_sink.WriterSinkSink.write_all.Given as goal

abbrev pub invariant-loop-at : goal.invariant-loop-at
invariant-loop-at g l = record {
  within : l.at ≤ length l.bytes;
  written : HasWritten (g.W.Write.contents l.initial.self.writer) (g.W.Write.contents l.self.writer) l.bytes l.at;
  same_count : l.self.faults ≡ l.initial.self.faults;
}

abbrev pub decreases-loop-at : goal.decreases-loop-at
decreases-loop-at g l = length l.bytes - l.at
