-- Why a move ended is told by its line.
use Rattle.std.proofs.Common.{◌≡◌, Err, subst, sym}
use Rattle.law_register.specs.declared.desk.damage.Damage.TheVariants.{Journal}
use Rattle.lawdesk.specs.Moving.{TellsMove, told_difference}
use Rattle.lawdesk.specs.Telling.{told_damage}
use Rattle.lawdesk.proofs.moving.tell_stop.Goals as goal

pub returns-in-Differs : goal.returns-in-Differs
returns-in-Differs g c =
    subst (λ m. TellsMove g.W.Sink.written g.W.Sink.faults c.args.sink.now c.tell.new.sink (Err m) c.tell.result) (sym c.in-Differs.is)
    (c.tell.ensures.told (told_difference c.in-Differs.place) c.report_difference.ensures)

pub returns-in-Damaged : goal.returns-in-Damaged
returns-in-Damaged g c =
    subst (λ m. TellsMove g.W.Sink.written g.W.Sink.faults c.args.sink.now c.tell-in-Damaged.new.sink (Err m) c.tell-in-Damaged.result) (sym c.in-Damaged.is)
    (c.tell-in-Damaged.ensures.told (told_damage (Journal c.in-Damaged.place c.in-Damaged.byte)) c.report_damage.ensures)
