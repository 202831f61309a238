-- One payload after another is written; the first that is not leaves those before it written whole.
use Rattle.std.proofs.Common.{rules, subst, arith, ℕ, ◌+◌, ◌<◌, List, [], length, get_or, Ok, Err}
use Rattle.std.proofs.lemmas.List.{length-map}
use Rattle.std.proofs.lemmas.Result.{err_from_is_err_and}
use Rattle.desk_base.specs.Streams.{Appended}
use Rattle.entry_codec.specs.Entries.{spelling}
use Rattle.law_register.specs.declared.register.entry.Entry.{Entry}
use Rattle.law_follow.specs.Exporting.{ArePut}
use Rattle.law_follow.specs.Frames.{Message, frame_of}
use Rattle.law_follow.specs.Messages.{messages_above}
use Rattle.law_follow.specs.Opening.{spellings}
use Rattle.law_follow.specs.declared.put_fault.PutFault.{PutFault}
use Rattle.law_follow.proofs.Written.{all_put, next_above, none_above, none_put, put_failed, put_more}
use Rattle.law_follow.proofs.exporting.put_above.Goals as goal

pub loop-index-init : goal.loop-index-init
loop-index-init g c = record {
  put = none_put (g.W.Sink.written c.args.sink.now) (messages_above c.args.from (spellings c.args.register.now.entries));
  counted = search rules;
}

pub loop-index-preserved : goal.loop-index-preserved
loop-index-preserved g c =
    let written = g.W.Sink.written in
    let es : List Entry = c.args.register.now.entries in
    let ps = spellings es in
    let i : ℕ = c.loop-index.index in
    let m : Message = record { number = i + 1; payload = get_or ps i [] } in
    let inside : i < length es = subst (λ (n : ℕ). i < n) c.len-index-end.ensures c.loop-index-test.true in
    let low : i < length ps = omega (arith, inside, length-map es spelling) in
    record {
      put = put_more (written c.args.sink.now) (written c.loop-index.sink) (written c.put_frame.new.sink) (messages_above c.args.from ps)
          (messages_above (i + 1) ps) m
          (subst (ArePut (written c.args.sink.now) (written c.loop-index.sink) (messages_above c.args.from ps)) (next_above ps i low)
          c.loop-index.invariant.put)
          (subst (λ (bytes : List ℕ). Appended {E = PutFault} (written c.loop-index.sink) (written c.put_frame.new.sink) (frame_of (i + 1) bytes) (Ok tt))
          c.in_ok-payload.ensures.same c.in_ok-put_frame.ensures.written);
      counted = search rules;
    }

pub returns-in_err-put_frame-clause-written : goal.returns-in_err-put_frame-clause-written
returns-in_err-put_frame-clause-written g c =
    let written = g.W.Sink.written in
    let es : List Entry = c.args.register.now.entries in
    let ps = spellings es in
    let i : ℕ = c.loop-index.index in
    let m : Message = record { number = i + 1; payload = get_or ps i [] } in
    let inside : i < length es = subst (λ (n : ℕ). i < n) c.len-index-end.ensures c.loop-index-test.true in
    let low : i < length ps = omega (arith, inside, length-map es spelling) in
    let p = err_from_is_err_and c.from_residual-in_err-put_frame.result c.from_residual-in_err-put_frame.ensures.1 in
    rw (p.1, p.2)
    (put_failed (written c.args.sink.now) written c.loop-index.sink c.put_frame.new.sink (messages_above c.args.from ps)
    (messages_above (i + 1) ps) m c.in_err-put_frame.field-0.0
    (subst (ArePut (written c.args.sink.now) (written c.loop-index.sink) (messages_above c.args.from ps)) (next_above ps i low)
    c.loop-index.invariant.put)
    (subst (λ (bytes : List ℕ). Appended {E = PutFault} (written c.loop-index.sink) (written c.put_frame.new.sink) (frame_of (i + 1) bytes)
    (Err c.in_err-put_frame.field-0.0)) c.in_ok-payload.ensures.same c.in_err-put_frame.ensures.written)
    c.in_err-put_frame.ensures.wanting)

pub returns-in_err-payload-clause-written : goal.returns-in_err-payload-clause-written
returns-in_err-payload-clause-written g c =
    let ps = spellings c.args.register.now.entries in
    let p = err_from_is_err_and c.from_residual.result c.from_residual.ensures.1 in
    rw (p.1, p.2)
    (messages_above c.loop-index.index ps, c.loop-index.invariant.put)

pub returns-clause-written : goal.returns-clause-written
returns-clause-written g c =
    let written = g.W.Sink.written in
    let es : List Entry = c.args.register.now.entries in
    let ps = spellings es in
    let i : ℕ = c.loop-index.index in
    let over = c.loop-index-test.false in
    all_put (written c.args.sink.now) (written c.loop-index.sink) (messages_above c.args.from ps) (messages_above i ps) c.loop-index.invariant.put
    (none_above ps i (omega (arith, over, c.len-index-end.ensures, length-map es spelling)))
