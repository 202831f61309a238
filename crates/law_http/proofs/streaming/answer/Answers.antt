use Rattle.law_http.specs.ServedMembers.{ServesCounted}
use Rattle.law_http.proofs.ServedMembers.{answered_by, reads_by, writes_by}
use Rattle.law_http.proofs.streaming.answer.Goals as goal

pub returns-clause-served : goal.returns-clause-served
returns-clause-served g c = λ left rest over first.
    answered_by (ServesCounted g.D.Desk.state g.D.Desk.crashes g.D.Desk.past g.D.Desk.judging) left rest over _ _
    (c.args.desk.now, c.args.steps.now) (c.respond_by-response.new.desk, c.respond_by-response.new.steps) _ _ _
    c.args.request.now c.respond_by-response.result _ _ first c.respond_by-response.ensures
    c.put_before-end.ensures.puts c.end_where.ensures c.is_fault-faulted.ensures

pub returns-clause-reads : goal.returns-clause-reads
returns-clause-reads g c = reads_by _ _ _ _ _ _ _ _ _ _ c.put_before-end.ensures.puts c.end_where.ensures c.put_before-end.ensures.read_faults

pub returns-clause-writes : goal.returns-clause-writes
returns-clause-writes g c = writes_by _ _ _ _ _ _ _ _ c.put_before-end.ensures.puts c.end_where.ensures
