use Rattle.std.proofs.Common.{◌∙◌, arith}
use Rattle.std.specs.Io.KnownBytes.{prepend_known}
use Rattle.law_http.specs.Connections.{AnswersSeen, view_of}
use Rattle.law_http.specs.Streaming.{HasReadCause, HasWriteCause}
use Rattle.law_http.proofs.Connected.{made_of, seen_grows, seen_legal, stays_on, well_answered}
use Rattle.law_http.proofs.ServedMembers.{as_before, goes_on_served, served_in_the_end, spent_on}
use Rattle.law_http.proofs.connection.serve_connection.Goals as goal

pub members-preserved : goal.members-preserved
members-preserved g c =
    let left = g.K.Link.left in let written = g.K.Link.written in record {
      goes_on =
          goes_on_served AnswersSeen (left c.args.link.now) (prepend_known c.members.rest (left c.members.link)) (prepend_known c.serve_member-member.new.rest (left c.serve_member-member.new.link)) (left c.serve_member-member.new.link)
          (written c.args.link.now) (written c.members.link) (written c.serve_member-member.new.link) (view_of c.args.pass.now) (view_of c.members.pass) (view_of c.serve_member-member.new.pass)
          c.members.faulted c.serve_member-member.result.faulted c.either-faulted.result c.serve_member-member.result.end
          c.members.invariant.goes_on c.serve_member-member.ensures.served c.in-None.is c.either-faulted.ensures;
      pass = stays_on c.args.turns.now c.args.pass.now c.members.pass c.serve_member-member.new.pass c.members.invariant.pass c.serve_member-member.ensures.pass;
      room = omega (arith, spent_on _ _ _ c.in-None.is c.serve_member-member.ensures.spent, c.members.invariant.room);
      reads = as_before HasReadCause _ _ _ c.in-None.is c.serve_member-member.ensures.reads ∙ c.members.invariant.reads;
      writes = as_before HasWriteCause _ _ _ c.in-None.is c.serve_member-member.ensures.writes ∙ c.members.invariant.writes;
      origin = c.serve_member-member.ensures.origin ∙ c.members.invariant.origin;
    }

pub returns-in-Some-clause-answered : goal.returns-in-Some-clause-answered
returns-in-Some-clause-answered g c =
    let left = g.K.Link.left in let written = g.K.Link.written in
    let old = view_of c.args.pass.now in let new = view_of c.serve_member-member.new.pass in
    let served = served_in_the_end AnswersSeen (left c.args.link.now) (prepend_known c.members.rest (left c.members.link)) (prepend_known c.serve_member-member.new.rest (left c.serve_member-member.new.link)) (left c.serve_member-member.new.link)
    (written c.args.link.now) (written c.members.link) (written c.serve_member-member.new.link) old (view_of c.members.pass) new
    c.members.faulted c.serve_member-member.result.faulted c.either-faulted.result c.serve_member-member.result.end c.in-Some.end
    c.members.invariant.goes_on c.serve_member-member.ensures.served c.in-Some.is c.either-faulted.ensures in
    well_answered (left c.args.link.now) (left c.serve_member-member.new.link) (written c.args.link.now) (written c.serve_member-member.new.link) old new _ served c.requires.legal

pub returns-in-Some-clause-grows : goal.returns-in-Some-clause-grows
returns-in-Some-clause-grows g c =
    let left = g.K.Link.left in let written = g.K.Link.written in
    let old = view_of c.args.pass.now in let new = view_of c.serve_member-member.new.pass in
    let served = served_in_the_end AnswersSeen (left c.args.link.now) (prepend_known c.members.rest (left c.members.link)) (prepend_known c.serve_member-member.new.rest (left c.serve_member-member.new.link)) (left c.serve_member-member.new.link)
    (written c.args.link.now) (written c.members.link) (written c.serve_member-member.new.link) old (view_of c.members.pass) new
    c.members.faulted c.serve_member-member.result.faulted c.either-faulted.result c.serve_member-member.result.end c.in-Some.end
    c.members.invariant.goes_on c.serve_member-member.ensures.served c.in-Some.is c.either-faulted.ensures in
    seen_grows (left c.args.link.now) (left c.serve_member-member.new.link) (written c.args.link.now) (written c.serve_member-member.new.link) old new _ served

pub returns-in-Some-clause-legal : goal.returns-in-Some-clause-legal
returns-in-Some-clause-legal g c =
    let left = g.K.Link.left in let written = g.K.Link.written in
    let old = view_of c.args.pass.now in let new = view_of c.serve_member-member.new.pass in
    let served = served_in_the_end AnswersSeen (left c.args.link.now) (prepend_known c.members.rest (left c.members.link)) (prepend_known c.serve_member-member.new.rest (left c.serve_member-member.new.link)) (left c.serve_member-member.new.link)
    (written c.args.link.now) (written c.members.link) (written c.serve_member-member.new.link) old (view_of c.members.pass) new
    c.members.faulted c.serve_member-member.result.faulted c.either-faulted.result c.serve_member-member.result.end c.in-Some.end
    c.members.invariant.goes_on c.serve_member-member.ensures.served c.in-Some.is c.either-faulted.ensures in
    seen_legal (left c.args.link.now) (left c.serve_member-member.new.link) (written c.args.link.now) (written c.serve_member-member.new.link) old new _ served c.requires.legal

pub returns-in-Some-clause-made : goal.returns-in-Some-clause-made
returns-in-Some-clause-made g c =
    let left = g.K.Link.left in let written = g.K.Link.written in
    let old = view_of c.args.pass.now in let new = view_of c.serve_member-member.new.pass in
    let served = served_in_the_end AnswersSeen (left c.args.link.now) (prepend_known c.members.rest (left c.members.link)) (prepend_known c.serve_member-member.new.rest (left c.serve_member-member.new.link)) (left c.serve_member-member.new.link)
    (written c.args.link.now) (written c.members.link) (written c.serve_member-member.new.link) old (view_of c.members.pass) new
    c.members.faulted c.serve_member-member.result.faulted c.either-faulted.result c.serve_member-member.result.end c.in-Some.end
    c.members.invariant.goes_on c.serve_member-member.ensures.served c.in-Some.is c.either-faulted.ensures in
    made_of (left c.args.link.now) (left c.serve_member-member.new.link) (written c.args.link.now) (written c.serve_member-member.new.link) old new _ served

pub returns-in-Some-clause-pass : goal.returns-in-Some-clause-pass
returns-in-Some-clause-pass g c =
    stays_on c.args.turns.now c.args.pass.now c.members.pass c.serve_member-member.new.pass c.members.invariant.pass c.serve_member-member.ensures.pass
