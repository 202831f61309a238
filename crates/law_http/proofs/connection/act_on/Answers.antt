use Rattle.std.proofs.Common.{refl, subst}
use Rattle.law_http.specs.Connections.{AnswersSeen, view_of}
use Rattle.law_http.specs.Hearing.{IsHeardOf}
use Rattle.law_http.proofs.ServedMembers.{come_to_end, said_last}
use Rattle.law_http.proofs.connection.act_on.Goals as goal

pub returns-in-End-clause-served : goal.returns-in-End-clause-served
returns-in-End-clause-served g c = λ left rest over is.
    come_to_end AnswersSeen left rest over (g.K.Link.written c.args.link.now) (g.K.Link.written c.args.link.now)
    (view_of c.args.pass.now) (subst (IsHeardOf left rest) c.in-End.is is) refl

pub returns-in-Refused-clause-served : goal.returns-in-Refused-clause-served
returns-in-Refused-clause-served g c = λ left rest over is.
    said_last AnswersSeen left rest over (g.K.Link.written c.args.link.now) (g.K.Link.written c.refuse.new.link)
    (view_of c.args.pass.now) (g.K.Link.write_faults c.args.link.now) (g.K.Link.write_faults c.refuse.new.link)
    c.in-Refused.refusal c.refuse.result (subst (IsHeardOf left rest) c.in-Refused.is is) c.refuse.ensures.refuses
