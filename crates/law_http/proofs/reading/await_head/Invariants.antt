-- Nothing of the stream is lost but empty lines, no read has failed, and it is known how long the head is.
use Rattle.std.proofs.Common.{◌≡◌, ◌≤◌, ◌+◌, max, length}
use Rattle.law_http.specs.declared.cutting.TheConstants.{MAX_HEAD}
use Rattle.std.specs.Io.KnownBytes.{prepend_known}
use Rattle.law_http.specs.Cutting.{IsHeadOf, after_empty_lines}
use Rattle.law_http.specs.Streams.{KeepsRequest, KeepsWithPiece}
use Rattle.law_http.proofs.reading.await_head.Given as goal

abbrev pub invariant-loop-head : goal.invariant-loop-head
invariant-loop-head g l = record {
  stream : KeepsRequest (prepend_known l.fn.bytes (g.L.Link.left l.fn.link)) (prepend_known l.bytes (g.L.Link.left l.link));
  piece : KeepsWithPiece l.fn.bytes l.bytes;
  begins : after_empty_lines l.bytes ≡ l.bytes;
  head : IsHeadOf l.bytes l.head;
  room : length l.bytes + g.L.Link.room l.link ≤ length l.fn.bytes + g.L.Link.room l.fn.link;
  held : length l.bytes ≤ max (length l.fn.bytes) MAX_HEAD;
  counted : g.L.Link.read_faults l.link ≡ g.L.Link.read_faults l.fn.link;
  written : g.L.Link.written l.link ≡ g.L.Link.written l.fn.link;
  write_faults : g.L.Link.write_faults l.link ≡ g.L.Link.write_faults l.fn.link;
  origin : g.L.Link.origin l.link ≡ g.L.Link.origin l.fn.link;
}

abbrev pub decreases-loop-head : goal.decreases-loop-head
decreases-loop-head g l = g.L.Link.room l.link
