use Rattle.law_http.specs.Connections.{AnswersSeen, view_of}
use Rattle.law_http.proofs.ServedMembers.{answered_by, reads_by, writes_by}
use Rattle.law_http.proofs.connection.answer.Goals as goal

pub returns-clause-served : goal.returns-clause-served
returns-clause-served g c = λ left rest over first.
    answered_by AnswersSeen left rest over _ _ (view_of c.args.pass.now) (view_of c.answer_in_turn-response.new.pass) _ _ _
    c.args.request.now c.answer_in_turn-response.result _ _ first c.answer_in_turn-response.ensures.answers
    c.put_before-end.ensures.puts c.end_where.ensures c.is_fault-faulted.ensures

pub returns-clause-reads : goal.returns-clause-reads
returns-clause-reads g c = reads_by _ _ _ _ _ _ _ _ _ _ c.put_before-end.ensures.puts c.end_where.ensures c.put_before-end.ensures.read_faults

pub returns-clause-writes : goal.returns-clause-writes
returns-clause-writes g c = writes_by _ _ _ _ _ _ _ _ c.put_before-end.ensures.puts c.end_where.ensures
