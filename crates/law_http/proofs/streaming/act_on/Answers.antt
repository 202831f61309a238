use Rattle.std.proofs.Common.{refl, subst}
use Rattle.law_http.specs.Hearing.{IsHeardOf}
use Rattle.law_http.specs.ServedMembers.{ServesCounted}
use Rattle.law_http.proofs.ServedMembers.{come_to_end, said_last}
use Rattle.law_http.proofs.streaming.act_on.Goals as goal

pub returns-in-Request-clause-served : goal.returns-in-Request-clause-served
returns-in-Request-clause-served g c = λ left rest over is.
    c.answer.ensures.served left rest over (subst (IsHeardOf left rest) c.in-Request.is is)

pub returns-in-End-clause-served : goal.returns-in-End-clause-served
returns-in-End-clause-served g c = λ left rest over is.
    come_to_end (ServesCounted g.D.Desk.state g.D.Desk.crashes g.D.Desk.past g.D.Desk.judging) left rest over (g.K.Link.written c.args.link.now) (g.K.Link.written c.args.link.now)
    (c.args.desk.now, c.args.steps.now) (subst (IsHeardOf left rest) c.in-End.is is) refl

pub returns-in-Refused-clause-served : goal.returns-in-Refused-clause-served
returns-in-Refused-clause-served g c = λ left rest over is.
    said_last (ServesCounted g.D.Desk.state g.D.Desk.crashes g.D.Desk.past g.D.Desk.judging) left rest over (g.K.Link.written c.args.link.now) (g.K.Link.written c.refuse.new.link)
    (c.args.desk.now, c.args.steps.now) (g.K.Link.write_faults c.args.link.now) (g.K.Link.write_faults c.refuse.new.link)
    c.in-Refused.refusal c.refuse.result (subst (IsHeardOf left rest) c.in-Refused.is is) c.refuse.ensures.refuses
