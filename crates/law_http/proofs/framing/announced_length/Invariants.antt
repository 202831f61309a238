use Rattle.std.proofs.Common.{◌≡◌, map, take}
use Rattle.httparse.specs.Spans.{header_bytes}
use Rattle.law_http.specs.Framing.{announced, lengths}
use Rattle.law_http.proofs.framing.announced_length.Given as goal

abbrev pub invariant-loop-header : goal.invariant-loop-header
invariant-loop-header l = l.announced ≡ announced (lengths (map (header_bytes l.bytes) (take l.header-index l.headers)))
