-- A mark that is added changes nothing of how a command ended.
use Rattle.law_register.specs.declared.desk.command_fault.CommandFault.TheVariants as fails
use Rattle.law_office.proofs.Marking.{marked_fault}
use Rattle.law_office.proofs.acting.command.Goals as goal

pub returns-in-Err-KeeperFault-clause-outcome : goal.returns-in-Err-KeeperFault-clause-outcome
returns-in-Err-KeeperFault-clause-outcome g c =
    let days = g.C.Clock.days in
    marked_fault c.args.sent.drafter c.args.sent.request c.args.sent.command (days c.args.clock.now) (days c.settle_and_act.new.clock)
    c.args.book.now c.reserve_mark.new.self c.settle_and_act.new.book c.add_mark.new.self
    c.reserve_mark.ensures.register c.reserve_mark.ensures.pending c.reserve_mark.ensures.refs c.add_mark.ensures.register c.add_mark.ensures.pending
    c.args.steps.now c.settle_and_act.new.steps c.in-Err-KeeperFault.field-0 fails.KeeperFault c.in-Err-KeeperFault.field-0-is
    c.in-Err-KeeperFault.ensures.outcome
