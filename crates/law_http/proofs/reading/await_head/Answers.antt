use Rattle.std.proofs.Common.{rules, List, ℕ, subst, sym, ap, ◌∙◌, arith, length}
use Rattle.std.specs.Io.KnownBytes.{prepend_known}
use Rattle.law_http.specs.Cutting.{after_empty_lines}
use Rattle.law_http.specs.Hearing.{HoldsNoRequest}
use Rattle.law_http.specs.Streams.{KeepsRequest}
use Rattle.law_http.proofs.CutShort.{before_head, held}
use Rattle.law_http.proofs.EmptyLines.{after_after, after_short}
use Rattle.law_http.proofs.Kept.{keeps_skipped, request_then, ready_found, ready_full, ready_ended, head_of, found_where}
use Rattle.law_http.proofs.WithPieces.{same_kept, skipped_kept, then_kept}
use Rattle.law_http.proofs.reading.await_head.Goals as goal

pub loop-head-init : goal.loop-head-init
loop-head-init g c =
    let left = g.L.Link.left c.args.link.now in
    let old = c.args.bytes.now in
    let skipped = c.skip_empty_lines.ensures in
    record {
      stream = subst (λ (l : List ℕ). KeepsRequest (prepend_known old left) (prepend_known l left)) (sym skipped) (keeps_skipped old left);
      piece = skipped_kept _ _ skipped;
      begins = ap after_empty_lines skipped ∙ after_after old ∙ sym skipped;
      head = head_of _ _ _ c.as_slice.ensures c.head_length-head.ensures.value c.head_length-head.ensures.within c.head_length-head.ensures.limit;
      room = omega (arith, ap length skipped, after_short old);
      held = omega (arith, ap length skipped, after_short old);
      counted = search rules;
      written = search rules;
      write_faults = search rules;
      origin = search rules;
    }

pub loop-head-preserved : goal.loop-head-preserved
loop-head-preserved g c = record {
  stream = request_then _ _ _ c.loop-head.invariant.stream c.in_ok-count.ensures.stream;
  piece = then_kept _ _ _ c.loop-head.invariant.piece c.in_ok-count.ensures.piece;
  begins = c.in_ok-count.ensures.begins;
  head = head_of _ _ _ c.as_slice-in-loop-head.ensures c.head_length-head-in-loop-head.ensures.value c.head_length-head-in-loop-head.ensures.within c.head_length-head-in-loop-head.ensures.limit;
  room = omega (arith, c.loop-head.invariant.room, c.in_ok-count.ensures.taken);
  held = omega (arith, c.in_ok-count.ensures.held);
  counted = search rules;
  written = search rules;
  write_faults = search rules;
  origin = search rules;
}

pub returns-in_err-count-clause-stream : goal.returns-in_err-count-clause-stream
returns-in_err-count-clause-stream g c = request_then _ _ _ c.loop-head.invariant.stream c.in_err-count.ensures.stream

pub returns-in_err-count-clause-unheard : goal.returns-in_err-count-clause-unheard
returns-in_err-count-clause-unheard g c =
    held c.from_residual.result c.read_on.new.bytes
    (subst HoldsNoRequest (sym c.in_err-count.ensures.unread)
    (before_head c.loop-head.bytes c.loop-head.head c.loop-head.invariant.begins c.loop-head.invariant.head
    (sym c.is_err.ensures.value ∙ c.if-is_err.true) (search rules)))

pub returns-else-is_err-clause-stream : goal.returns-else-is_err-clause-stream
returns-else-is_err-clause-stream g c = c.loop-head.invariant.stream

pub returns-else-is_err-clause-ready : goal.returns-else-is_err-clause-ready
returns-else-is_err-clause-ready g c =
    let (n, found) = found_where c.loop-head.head (sym c.is_err.ensures.value ∙ c.if-is_err.false) in
    ready_found c.loop-head.bytes (g.L.Link.left c.loop-head.link) n c.loop-head.invariant.begins
    (sym c.loop-head.invariant.head.value ∙ found)

pub returns-else-is_err-clause-head : goal.returns-else-is_err-clause-head
returns-else-is_err-clause-head g c = c.loop-head.invariant.head

pub returns-after-loop-head-clause-stream : goal.returns-after-loop-head-clause-stream
returns-after-loop-head-clause-stream g c = c.loop-head.invariant.stream

pub returns-after-loop-head-clause-ready : goal.returns-after-loop-head-clause-ready
returns-after-loop-head-clause-ready g c =
    ready_full c.loop-head.bytes (g.L.Link.left c.loop-head.link) c.loop-head.invariant.begins (search rules)

pub returns-after-loop-head-clause-head : goal.returns-after-loop-head-clause-head
returns-after-loop-head-clause-head g c = c.loop-head.invariant.head

pub returns-then-count-eq0-clause-head : goal.returns-then-count-eq0-clause-head
returns-then-count-eq0-clause-head g c =
    head_of _ _ _ c.as_slice-in-loop-head.ensures c.head_length-head-in-loop-head.ensures.value c.head_length-head-in-loop-head.ensures.within c.head_length-head-in-loop-head.ensures.limit

pub returns-then-count-eq0-clause-stream : goal.returns-then-count-eq0-clause-stream
returns-then-count-eq0-clause-stream g c = request_then _ _ _ c.loop-head.invariant.stream c.in_ok-count.ensures.stream

pub returns-then-count-eq0-clause-ready : goal.returns-then-count-eq0-clause-ready
returns-then-count-eq0-clause-ready g c =
    ready_ended c.read_on.new.bytes (g.L.Link.left c.read_on.new.link) c.in_ok-count.ensures.begins
    (c.in_ok-count.ensures.end c.if-count-eq0.true)

pub returns-in_err-count-clause-piece : goal.returns-in_err-count-clause-piece
returns-in_err-count-clause-piece g c =
    then_kept _ _ _ c.loop-head.invariant.piece c.in_err-count.ensures.piece

pub returns-else-is_err-clause-piece : goal.returns-else-is_err-clause-piece
returns-else-is_err-clause-piece g c = c.loop-head.invariant.piece

pub returns-after-loop-head-clause-piece : goal.returns-after-loop-head-clause-piece
returns-after-loop-head-clause-piece g c = c.loop-head.invariant.piece

pub returns-then-count-eq0-clause-piece : goal.returns-then-count-eq0-clause-piece
returns-then-count-eq0-clause-piece g c =
    then_kept _ _ _ c.loop-head.invariant.piece c.in_ok-count.ensures.piece
