-- The payloads passed are written, each whole, and those from here on are not; no write has failed.
use Rattle.std.proofs.Common.{◌≡◌}
use Rattle.law_follow.specs.Exporting.{ArePut}
use Rattle.law_follow.specs.Messages.{messages_above}
use Rattle.law_follow.specs.Opening.{spellings}
use Rattle.law_follow.proofs.exporting.put_above.Given as goal

abbrev pub invariant-loop-index : goal.invariant-loop-index
invariant-loop-index g l = record {
  put : ArePut (g.W.Sink.written l.initial.sink) (g.W.Sink.written l.sink) (messages_above l.from (spellings l.register.entries))
      (messages_above l.index (spellings l.register.entries));
  counted : g.W.Sink.faults l.sink ≡ g.W.Sink.faults l.initial.sink;
}
