-- Whatever is served from here is served from the start, and nothing has failed.
use Rattle.std.proofs.Common.{◌≡◌, ◌≤◌, ◌+◌, length}
use Rattle.std.specs.Io.KnownBytes.{prepend_known}
use Rattle.law_http.specs.ServedMembers.{GoesOn, ServesCounted}
use Rattle.law_http.proofs.streaming.serve_stream.Given as goal

abbrev pub invariant-members : goal.invariant-members
invariant-members g l = record {
  goes_on : GoesOn (ServesCounted g.D.Desk.state g.D.Desk.crashes g.D.Desk.past g.D.Desk.judging) (g.K.Link.left l.fn.link) (prepend_known l.rest (g.K.Link.left l.link))
      (g.K.Link.written l.fn.link) (g.K.Link.written l.link) (l.fn.desk, l.fn.steps) (l.desk, l.steps) l.faulted;
  room : length l.rest + g.K.Link.room l.link ≤ g.K.Link.room l.fn.link;
  reads : g.K.Link.read_faults l.link ≡ g.K.Link.read_faults l.fn.link;
  writes : g.K.Link.write_faults l.link ≡ g.K.Link.write_faults l.fn.link;
  origin : g.K.Link.origin l.link ≡ g.K.Link.origin l.fn.link;
}

abbrev pub decreases-members : goal.decreases-members
decreases-members g l = length l.rest + g.K.Link.room l.link
