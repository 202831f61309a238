use Rattle.std.proofs.Common.{List, ℕ, subst, sym}
use Rattle.std.specs.Io.KnownBytes.{prepend_known}
use Rattle.law_http.specs.Streams.{KeepsRequest}
use Rattle.law_http.proofs.Kept.{keeps_request, keeps_skipped, request_then}
use Rattle.law_http.proofs.WithPieces.{front_kept, same_kept, skipped_kept, then_kept}
use Rattle.law_http.proofs.reading.read_on.Goals as goal

pub returns-clause-stream : goal.returns-clause-stream
returns-clause-stream g c =
    let left = g.L.Link.left c.read_piece.new.link in
    let skipped = subst (λ (l : List ℕ). KeepsRequest (prepend_known c.read_piece.new.self left) (prepend_known l left))
    (sym c.skip_empty_lines.ensures) (keeps_skipped c.read_piece.new.self left) in
    request_then _ _ _ (keeps_request _ _ c.in_ok-count.ensures.stream) skipped

pub returns-clause-piece : goal.returns-clause-piece
returns-clause-piece g c =
    then_kept _ _ _ (front_kept _ _ c.in_ok-count.ensures.front) (skipped_kept _ _ c.skip_empty_lines.ensures)
