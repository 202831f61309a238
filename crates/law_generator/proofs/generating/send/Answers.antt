-- What the command did, by how it ended.
use Rattle.std.proofs.Common.{Result, subst, sym}
use Rattle.law_register.specs.Desk.States.{standing}
use Rattle.law_generator.specs.Courses.{HasGenerateCause, Sends}
use Rattle.law_generator.specs.declared.generate_fault.GenerateFault.{GenerateFault}
use Rattle.law_generator.proofs.Sending.{causes, sends, spent}
use Rattle.law_generator.proofs.generating.send.Goals as goal

pub returns-clause-sent : goal.returns-clause-sent
returns-clause-sent g c =
    let old = standing (g.D.Desk.state c.args.desk.now) in
    let new = standing (g.D.Desk.state c.command-outcome.new.self) in
    subst (λ (r : Result Unit GenerateFault). Sends old new c.args.request c.args.command r) (sym c.run_of.ensures)
    (sends c.args.request c.args.command old new c.requires.ready c.args.drafter.now c.command-outcome.result
    c.requires.drafter c.command-outcome.ensures.outcome.ends)

pub returns-clause-cause : goal.returns-clause-cause
returns-clause-cause g c =
    let before = (g.D.Desk.state c.args.desk.now).faults in
    let now = (g.D.Desk.state c.command-outcome.new.self).faults in
    subst (λ (r : Result Unit GenerateFault). HasGenerateCause before now r) (sym c.run_of.ensures)
    (causes before now c.command-outcome.result c.command-outcome.ensures.cause)

pub returns-clause-steps : goal.returns-clause-steps
returns-clause-steps g c =
    spent c.args.request c.args.command (standing (g.D.Desk.state c.args.desk.now)) (standing (g.D.Desk.state c.command-outcome.new.self))
    c.requires.ready (g.D.Desk.judging c.args.desk.now) c.args.drafter.now c.command-outcome.result c.args.steps.now c.command-outcome.new.steps c.requires.drafter
    c.command-outcome.ensures.outcome.ends c.command-outcome.ensures.outcome.within
