use Rattle.std.proofs.Common.{ap, arith, drop, length, ◌∙◌}
use Rattle.law_http.proofs.Buffers.{skipped, sliced_length}
use Rattle.law_http.proofs.buffer.Buffer.skip.Goals as goal

pub returns : goal.returns
returns c =
    let b = c.self.inside in
    let long = sliced_length b.bytes.items b.start b.end c.self.invariant.1 in
    skipped b.bytes.items b.start b.end c.args.count (omega (arith, c.requires, ap length c.self.view_is, long, c.self.invariant.0))
    ∙ ap (drop c.args.count) c.self.view_is
