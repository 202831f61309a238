use Rattle.std.proofs.Common.{List, Option, ap, subst, sym, refl, ℕ}
use Rattle.std.specs.Io.KnownBytes.{prepend_known}
use Rattle.law_http.specs.Streams.{KeepsRequest}
use Rattle.law_http.specs.ServedMembers.{ServesCounted}
use Rattle.law_http.proofs.ServedMembers.{left_off, member_moved}
use Rattle.law_http.proofs.streaming.serve_member.Goals as goal

pub returns-in-Ok-clause-served : goal.returns-in-Ok-clause-served
returns-in-Ok-clause-served g c =
    let left = prepend_known c.args.rest.now (g.K.Link.left c.args.link.now) in
    let here = prepend_known c.read_request.new.rest (g.K.Link.left c.read_request.new.link) in
    let over = g.K.Link.left c.act_on.new.link in
    let written = g.K.Link.written in
    member_moved (ServesCounted g.D.Desk.state g.D.Desk.crashes g.D.Desk.past g.D.Desk.judging) left here (prepend_known c.read_request.new.rest over) over
    (written c.args.link.now) (written c.read_request.new.link) (written c.act_on.new.link)
    (c.args.desk.now, c.args.steps.now) (c.act_on.new.desk, c.act_on.new.steps) c.act_on.result.faulted c.act_on.result.end
    (ap (prepend_known c.read_request.new.rest) c.act_on.ensures.left) c.read_request.ensures.written
    (c.act_on.ensures.served left here over c.in-Ok.ensures.heard)

pub returns-in-Err-clause-served : goal.returns-in-Err-clause-served
returns-in-Err-clause-served g c =
    let left = prepend_known c.args.rest.now (g.K.Link.left c.args.link.now) in
    let over = g.K.Link.left c.leave.new.link in
    let rest = prepend_known c.read_request.new.rest over in
    let written = g.K.Link.written in
    let answers = ServesCounted g.D.Desk.state g.D.Desk.crashes g.D.Desk.past g.D.Desk.judging in
    let kept = subst (λ (o : Option (List ℕ)). KeepsRequest left (prepend_known c.read_request.new.rest o)) (sym c.leave.ensures.left) c.in-Err.ensures.kept in
    member_moved answers left rest rest over (written c.args.link.now) (written c.read_request.new.link) (written c.leave.new.link)
    (c.args.desk.now, c.args.steps.now) (c.args.desk.now, c.args.steps.now) _ c.leave.result refl c.read_request.ensures.written
    (left_off answers left rest over (written c.read_request.new.link) (written c.leave.new.link) (c.args.desk.now, c.args.steps.now)
    (g.K.Link.write_faults c.read_request.new.link) (g.K.Link.write_faults c.leave.new.link) c.read_request.new.rest c.in-Err.fault c.leave.result
    kept c.in-Err.ensures.unheard c.leave.ensures.leaves)
