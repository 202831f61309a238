use Rattle.std.proofs.Common.{sym}
use Rattle.law_register.specs.Desk.Commands.{mark_of}
use Rattle.law_office.specs.Offices.{standing_of}
use Rattle.law_office.proofs.Images.{rests_on, found_after, found_between}
use Rattle.law_office.proofs.Marking.{marked_after, rises_with, sound_of}
use Rattle.law_office.proofs.office.OfficeDesk.command.Goals as goal

pub invariant_of-self : goal.invariant_of-self
invariant_of-self g c =
    let office = c.self.inside in
    let old = office.book in
    let new = c.command.new.book in
    let days = g.C.Clock.days in
    let faults = g.K.Keeper.faults in
    let drafter = c.in-Ok.drafter in
    let mark = mark_of drafter c.args.request new.register.entries in (
      c.command.ensures.leaves.stands.right,
      c.command.ensures.leaves.stands.held,
      marked_after drafter c.args.request c.args.command (standing_of old (days office.clock.now)) (standing_of new (days c.command.new.clock))
          old.marks.items new.marks.items mark c.command.result c.command.ensures.outcome.ends c.command.ensures.marks c.self.invariant.2,
      rises_with old.marks.items new.marks.items mark (faults office.opened.value) (faults office.keeper.now) (faults c.command.new.keeper)
          c.command.result c.command.ensures.marks c.command.ensures.cause c.self.invariant.3,
    )

pub returns-in-Ok-clause-sound : goal.returns-in-Ok-clause-sound
returns-in-Ok-clause-sound g c =
    let office = c.self.inside in
    let old = office.book in
    let new = c.command.new.book in
    let days = g.C.Clock.days in
    let drafter = c.in-Ok.drafter in
    let mark = mark_of drafter c.args.request new.register.entries in
    sound_of new _ _ _ c.command.ensures.leaves.stands.right
    (marked_after drafter c.args.request c.args.command (standing_of old (days office.clock.now)) (standing_of new (days c.command.new.clock))
    old.marks.items new.marks.items mark c.command.result c.command.ensures.outcome.ends c.command.ensures.marks c.self.invariant.2)

pub returns-in-Ok-clause-crash : goal.returns-in-Ok-clause-crash
returns-in-Ok-clause-crash g c =
    let office = c.self.inside in
    let holding = g.K.Keeper.holding in
    rw (sym c.self.view_is)
    (found_between (holding office.keeper.now) (holding c.command.new.keeper) office.book c.command.new.book
    c.self.invariant.0 c.command.ensures.leaves.stands.right c.command.ensures.leaves.crash)

pub returns-in-Ok-clause-durable : goal.returns-in-Ok-clause-durable
returns-in-Ok-clause-durable g c =
    let keeper = c.command.new.keeper in
    found_after c.command.new.book c.command.ensures.leaves.stands.right (g.K.Keeper.holding keeper) (g.K.Keeper.readiness keeper) c.command.ensures.leaves.stands.held

pub returns-in-Err-clause-crash : goal.returns-in-Err-clause-crash
returns-in-Err-clause-crash g c =
    let office = c.self.inside in
    let keeper = office.keeper.now in
    let h = g.K.Keeper.holding keeper in
    rw (sym c.self.view_is)
    (found_between h h office.book office.book c.self.invariant.0 c.self.invariant.0
    (rests_on h (g.K.Keeper.readiness keeper) office.book office.book (g.met.K.Keeper.is_holding keeper) c.self.invariant.1))

pub returns-in-Err-clause-durable : goal.returns-in-Err-clause-durable
returns-in-Err-clause-durable g c =
    let office = c.self.inside in
    rw (sym c.self.view_is)
    (found_after office.book c.self.invariant.0 (g.K.Keeper.holding office.keeper.now) (g.K.Keeper.readiness office.keeper.now) c.self.invariant.1)
