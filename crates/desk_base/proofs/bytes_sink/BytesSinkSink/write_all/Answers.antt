use Rattle.std.proofs.Common.{ap, ◌∙◌, ◌++◌, take, drop, Some}
use Rattle.std.proofs.lemmas.List.{take-append-drop}
use Rattle.desk_base.specs.MemoryStreams.{HeldSink}
use Rattle.desk_base.proofs.bytes_sink.BytesSinkSink.write_all.Goals as goal

pub returns-then-fits-bytes-clause-appended : goal.returns-then-fits-bytes-clause-appended
returns-then-fits-bytes-clause-appended c =
    let front = take c.min-fits.result c.args.bytes.now in
    let same = c.in-Ok.ensures.items ∙ ap (λ (held : HeldSink). held.written ++ front) c.self.view_is in
    (front, (drop c.min-fits.result c.args.bytes.now, (ap Some same, take-append-drop c.min-fits.result c.args.bytes.now)))
