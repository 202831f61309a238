use Rattle.std.proofs.Common.{◌∙◌, arith}
use Rattle.std.specs.Io.KnownBytes.{prepend_known}
use Rattle.law_http.specs.Streaming.{HasReadCause, HasWriteCause}
use Rattle.law_http.specs.ServedMembers.{ServesCounted}
use Rattle.law_http.proofs.Counting.{origin_in_the_end, streamed_of}
use Rattle.law_http.proofs.ServedMembers.{as_before, goes_on_served, served_in_the_end, spent_on}
use Rattle.law_http.proofs.streaming.serve_stream.Goals as goal

pub returns-in-Some-clause-served : goal.returns-in-Some-clause-served
returns-in-Some-clause-served g c =
    let left = g.K.Link.left in let written = g.K.Link.written in
    streamed_of g.D.Desk.state g.D.Desk.crashes g.D.Desk.past g.D.Desk.judging (left c.args.link.now) (left c.serve_member-member.new.link) (written c.args.link.now) (written c.serve_member-member.new.link)
    c.args.desk.now c.serve_member-member.new.desk c.args.steps.now c.serve_member-member.new.steps _
    (served_in_the_end (ServesCounted g.D.Desk.state g.D.Desk.crashes g.D.Desk.past g.D.Desk.judging) (left c.args.link.now) (prepend_known c.members.rest (left c.members.link)) (prepend_known c.serve_member-member.new.rest (left c.serve_member-member.new.link)) (left c.serve_member-member.new.link)
    (written c.args.link.now) (written c.members.link) (written c.serve_member-member.new.link) (c.args.desk.now, c.args.steps.now) (c.members.desk, c.members.steps) (c.serve_member-member.new.desk, c.serve_member-member.new.steps)
    c.members.faulted c.serve_member-member.result.faulted c.either-faulted.result c.serve_member-member.result.end c.in-Some.end
    c.members.invariant.goes_on c.serve_member-member.ensures.served c.in-Some.is c.either-faulted.ensures)

pub returns-in-Some-clause-desk_origin : goal.returns-in-Some-clause-desk_origin
returns-in-Some-clause-desk_origin g c =
    let left = g.K.Link.left in let written = g.K.Link.written in
    origin_in_the_end g.D.Desk.state g.D.Desk.crashes g.D.Desk.past g.D.Desk.judging (left c.args.link.now) (left c.serve_member-member.new.link) (written c.args.link.now) (written c.serve_member-member.new.link)
    c.args.desk.now c.serve_member-member.new.desk c.args.steps.now c.serve_member-member.new.steps _
    (served_in_the_end (ServesCounted g.D.Desk.state g.D.Desk.crashes g.D.Desk.past g.D.Desk.judging) (left c.args.link.now) (prepend_known c.members.rest (left c.members.link)) (prepend_known c.serve_member-member.new.rest (left c.serve_member-member.new.link)) (left c.serve_member-member.new.link)
    (written c.args.link.now) (written c.members.link) (written c.serve_member-member.new.link) (c.args.desk.now, c.args.steps.now) (c.members.desk, c.members.steps) (c.serve_member-member.new.desk, c.serve_member-member.new.steps)
    c.members.faulted c.serve_member-member.result.faulted c.either-faulted.result c.serve_member-member.result.end c.in-Some.end
    c.members.invariant.goes_on c.serve_member-member.ensures.served c.in-Some.is c.either-faulted.ensures)

pub members-preserved : goal.members-preserved
members-preserved g c =
    let left = g.K.Link.left in let written = g.K.Link.written in record {
      goes_on =
          goes_on_served (ServesCounted g.D.Desk.state g.D.Desk.crashes g.D.Desk.past g.D.Desk.judging) (left c.args.link.now) (prepend_known c.members.rest (left c.members.link)) (prepend_known c.serve_member-member.new.rest (left c.serve_member-member.new.link)) (left c.serve_member-member.new.link)
          (written c.args.link.now) (written c.members.link) (written c.serve_member-member.new.link) (c.args.desk.now, c.args.steps.now) (c.members.desk, c.members.steps) (c.serve_member-member.new.desk, c.serve_member-member.new.steps)
          c.members.faulted c.serve_member-member.result.faulted c.either-faulted.result c.serve_member-member.result.end
          c.members.invariant.goes_on c.serve_member-member.ensures.served c.in-None.is c.either-faulted.ensures;
      room = omega (arith, spent_on _ _ _ c.in-None.is c.serve_member-member.ensures.spent, c.members.invariant.room);
      reads = as_before HasReadCause _ _ _ c.in-None.is c.serve_member-member.ensures.reads ∙ c.members.invariant.reads;
      writes = as_before HasWriteCause _ _ _ c.in-None.is c.serve_member-member.ensures.writes ∙ c.members.invariant.writes;
      origin = c.serve_member-member.ensures.origin ∙ c.members.invariant.origin;
    }
