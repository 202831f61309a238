use Rattle.std.proofs.Common.{List, ℕ, take, Ok, subst}
use Rattle.law_http.specs.Heads.{IsSaid}
use Rattle.law_http.proofs.CutShort.{before_body, held}
use Rattle.law_http.proofs.Members.{body_heard}
use Rattle.law_http.proofs.WithPieces.{body_with_piece, front_kept, head_refused}
use Rattle.law_http.proofs.hearing.hear_body.Goals as goal

pub returns-clause-heard : goal.returns-clause-heard
returns-clause-heard g c =
    body_heard c.args.head c.in-Ok.framing c.in_ok-take_request.field-0 c.args.bytes.now c.await_bytes.new.bytes c.take_request.new.bytes
    (g.L.Link.left c.args.link.now) (g.L.Link.left c.await_bytes.new.link)
    (subst (λ (t : List ℕ). IsSaid (take c.args.head t) (Ok c.in-Ok.framing)) c.as_slice.ensures (subst (IsSaid (take c.args.head c.as_slice.result.now)) c.in-Ok.is c.in_ok-framing.ensures.said))
    c.in_ok-await_bytes.ensures.stream c.in_ok-await_bytes.ensures.end c.in_ok-take_request.ensures.heard

pub returns-in_err-await_bytes-clause-unheard : goal.returns-in_err-await_bytes-clause-unheard
returns-in_err-await_bytes-clause-unheard g c =
    held c.from_residual-in_err-await_bytes.result c.await_bytes.new.bytes
    (before_body c.args.bytes.now c.await_bytes.new.bytes c.args.head c.in-Ok.framing c.requires.begins c.requires.found c.requires.within
    (subst (λ (t : List ℕ). IsSaid (take c.args.head t) (Ok c.in-Ok.framing)) c.as_slice.ensures (subst (IsSaid (take c.args.head c.as_slice.result.now)) c.in-Ok.is c.in_ok-framing.ensures.said))
    c.in_err-await_bytes.ensures.front c.in_err-await_bytes.ensures.wanting)

pub returns-clause-heard_of_own : goal.returns-clause-heard_of_own
returns-clause-heard_of_own g c =
    body_with_piece c.args.head c.in-Ok.framing c.in_ok-take_request.field-0 c.args.bytes.now c.await_bytes.new.bytes c.take_request.new.bytes
    (subst (λ (t : List ℕ). IsSaid (take c.args.head t) (Ok c.in-Ok.framing)) c.as_slice.ensures (subst (IsSaid (take c.args.head c.as_slice.result.now)) c.in-Ok.is c.in_ok-framing.ensures.said))
    c.in_ok-await_bytes.ensures.front c.in_ok-take_request.ensures.heard
