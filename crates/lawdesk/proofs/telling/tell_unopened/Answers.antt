-- What is damaged is told by its line.
use Rattle.std.proofs.Common.{◌≡◌, subst, sym}
use Rattle.law_register.specs.declared.desk.open_fault.OpenFault.TheVariants as fails
use Rattle.lawdesk.specs.Telling.{TellsUnopened, told_damage}
use Rattle.lawdesk.proofs.telling.tell_unopened.Goals as goal

pub returns-in-Damaged : goal.returns-in-Damaged
returns-in-Damaged g c =
    let given = c.in-Damaged.is in
    let is : c.args.fault ≡ fails.Damaged c.in-Damaged.damage = cc in
    subst (λ f. TellsUnopened g.W.Sink.written g.W.Sink.faults c.args.sink.now c.tell.new.sink c.tell.result f) (sym is)
    (c.tell.ensures.told (told_damage c.in-Damaged.damage) c.report_damage.ensures)
