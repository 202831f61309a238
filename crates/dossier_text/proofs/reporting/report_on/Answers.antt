-- Where a command is refused, what is told is its rule.
use Rattle.std.proofs.Common.{rules, ◌≡◌, Err, subst}
use Rattle.law_register.specs.Register.Entering.{Fails}
use Rattle.law_register.specs.declared.register.entering.EnterFault.{EnterFault}
use Rattle.dossier_text.specs.Entering.{entries_of}
use Rattle.dossier_text.proofs.reporting.report_on.Goals as goal

pub returns-in-Err-Rule : goal.returns-in-Err-Rule
returns-in-Err-Rule g c =
    let Told : EnterFault → Type 0 = λ fault. Fails fault (entries_of c.args.dossier) in
    let made : entries_of c.args.dossier ≡ Err c.in-Err-Rule.rule = subst Told c.in-Err-Rule.field-0-is c.in-Err-Rule.ensures in search rules
