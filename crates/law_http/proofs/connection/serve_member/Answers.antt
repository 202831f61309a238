use Rattle.std.proofs.Common.{List, Option, subst, sym, refl, ℕ}
use Rattle.std.specs.Io.KnownBytes.{prepend_known}
use Rattle.law_http.specs.Connections.{AnswersSeen, view_of}
use Rattle.law_http.specs.Streams.{KeepsRequest}
use Rattle.law_http.proofs.ServedMembers.{left_off, member_moved}
use Rattle.law_http.proofs.connection.serve_member.Goals as goal

pub returns-in-Err-clause-served : goal.returns-in-Err-clause-served
returns-in-Err-clause-served g c =
    let left = prepend_known c.args.rest.now (g.K.Link.left c.args.link.now) in
    let over = g.K.Link.left c.leave.new.link in
    let rest = prepend_known c.read_request.new.rest over in
    let written = g.K.Link.written in
    let here = view_of c.args.pass.now in
    let kept = subst (λ (o : Option (List ℕ)). KeepsRequest left (prepend_known c.read_request.new.rest o)) (sym c.leave.ensures.left) c.in-Err.ensures.kept in
    member_moved AnswersSeen left rest rest over (written c.args.link.now) (written c.read_request.new.link) (written c.leave.new.link)
    here here _ c.leave.result refl c.read_request.ensures.written
    (left_off AnswersSeen left rest over (written c.read_request.new.link) (written c.leave.new.link) here
    (g.K.Link.write_faults c.read_request.new.link) (g.K.Link.write_faults c.leave.new.link) c.read_request.new.rest c.in-Err.fault c.leave.result
    kept c.in-Err.ensures.unheard c.leave.ensures.leaves)
