-- Nothing of the stream is lost, and no read has failed.
use Rattle.std.proofs.Common.{◌≡◌, ◌≤◌, ◌+◌, max, length, take}
use Rattle.std.specs.Io.KnownBytes.{Keeps, prepend_known}
use Rattle.law_http.proofs.reading.await_bytes.Given as goal

abbrev pub invariant-loop-bytes : goal.invariant-loop-bytes
invariant-loop-bytes g l = record {
  stream : Keeps (prepend_known l.initial.bytes (g.L.Link.left l.initial.link)) (prepend_known l.bytes (g.L.Link.left l.link));
  front : take (length l.initial.bytes) l.bytes ≡ l.initial.bytes;
  grown : length l.initial.bytes ≤ length l.bytes;
  room : length l.bytes + g.L.Link.room l.link ≡ length l.initial.bytes + g.L.Link.room l.initial.link;
  held : length l.bytes ≤ max (length l.initial.bytes) l.wanted;
  counted : g.L.Link.read_faults l.link ≡ g.L.Link.read_faults l.initial.link;
  written : g.L.Link.written l.link ≡ g.L.Link.written l.initial.link;
  write_faults : g.L.Link.write_faults l.link ≡ g.L.Link.write_faults l.initial.link;
  origin : g.L.Link.origin l.link ≡ g.L.Link.origin l.initial.link;
}

abbrev pub decreases-loop-bytes : goal.decreases-loop-bytes
decreases-loop-bytes g l = g.L.Link.room l.link
