use Rattle.std.proofs.Common.{◌+◌, rules}
use Rattle.desk_base.proofs.Writes.{one_more, kept, front_written}
use Rattle.desk_base.proofs.writer_sink.WriterSinkSink.write_all.Goals as goal

pub loop-at-preserved : goal.loop-at-preserved
loop-at-preserved g c = record {
  within = search rules;
  written = one_more _ _ _ c.args.bytes.now c.loop-at.at c.in-Ok.n c.loop-at.invariant.written c.in-Ok.ensures.bytes;
  same_count = c.loop-at.invariant.same_count;
}

pub returns-in-Ok-eq0-clause-appended : goal.returns-in-Ok-eq0-clause-appended
returns-in-Ok-eq0-clause-appended g c =
    front_written _ _ _ c.args.bytes.now (c.loop-at.at + c.in-Ok-eq0.field-0) _
    (one_more _ _ _ c.args.bytes.now c.loop-at.at c.in-Ok-eq0.field-0 c.loop-at.invariant.written c.in-Ok-eq0.ensures.bytes)

pub returns-in-Err-clause-appended : goal.returns-in-Err-clause-appended
returns-in-Err-clause-appended g c =
    front_written _ _ _ c.args.bytes.now c.loop-at.at _ (kept _ _ _ c.args.bytes.now c.loop-at.at c.loop-at.invariant.written c.in-Err.ensures.bytes)
