use Rattle.std.proofs.Common.{◌∙◌, ap, Some}
use Rattle.law_register.specs.Register.Verdicts.{request_of}
use Rattle.law_register.proofs.Lookups.{found_again}
use Rattle.law_register.proofs.register.register.Register.judge_again.Goals as goal

pub returns-in-Some : goal.returns-in-Some
returns-in-Some c =
    ap Some c.again.ensures
    ∙ found_again c.args.command.now (request_of c.args.self.now.entries c.args.drafter.now c.args.request) c.in_ok-entry.entry.now c.in-Some.reply c.in_ok-entry.ensures c.in-Some.ensures
