-- What is pending is settled, and then the command is judged by the entries that the list spells.
use Rattle.std.proofs.Common.{subst, ◌≤◌, ◌+◌}
use Rattle.law_register.specs.declared.register.entry.Entry.{Entry}
use Rattle.law_register.specs.Answer.Renewing.{command_cost, judging_cost}
use Rattle.law_refs.specs.Handing.{judged_for}
use Rattle.law_office.specs.Acting.{Acts}
use Rattle.law_office.proofs.Ending.{ends_over, ends_within, stops_over, stops_within}
use Rattle.law_office.proofs.acting.settle_and_act.Goals as goal

pub returns-in-Ok-clause-over : goal.returns-in-Ok-clause-over
returns-in-Ok-clause-over g c =
    let holding = g.K.Keeper.holding in
    let readiness = g.K.Keeper.readiness in
    let mid = c.settle_pending.new.book in
    let new = c.act.new.book in
    ends_over c.args.sent.drafter c.args.sent.request c.args.sent.command c.today-day.result
    (g.C.Clock.days c.args.clock.now) (g.C.Clock.days c.today-day.new.self) c.args.book.now mid new
    (holding c.args.keeper.now) (holding c.settle_pending.new.keeper) (holding c.act.new.keeper)
    (readiness c.settle_pending.new.keeper) (readiness c.act.new.keeper)
    c.in-Ok.ensures.settles.0 c.in-Ok.ensures.settles.1 c.in-Ok.ensures.same c.today-day.ensures c.in-Ok.ensures.settles.2
    c.in-Ok.ensures.leaves.stands.held c.act.ensures.leaves.stands.held c.act.ensures.tells c.act.result
    (subst (λ (e : Entry). Acts e mid new c.act.result) c.on.ensures c.act.ensures.acts)

pub returns-in-Err-clause-over : goal.returns-in-Err-clause-over
returns-in-Err-clause-over g c =
    let holding = g.K.Keeper.holding in
    stops_over c.args.sent.drafter c.args.sent.request c.args.sent.command (g.C.Clock.days c.args.clock.now)
    c.args.book.now c.settle_pending.new.book (holding c.args.keeper.now) (holding c.settle_pending.new.keeper)
    c.in-Err.fault c.in-Err.ensures.settles c.in-Err.ensures.same

pub returns-in-Ok-clause-outcome : goal.returns-in-Ok-clause-outcome
returns-in-Ok-clause-outcome g c =
    let holding = g.K.Keeper.holding in
    let readiness = g.K.Keeper.readiness in
    let mid = c.settle_pending.new.book in
    let new = c.act.new.book in
    ends_within c.args.sent.drafter c.args.sent.request c.args.sent.command c.today-day.result
    (g.C.Clock.days c.args.clock.now) (g.C.Clock.days c.today-day.new.self) c.args.book.now mid new
    (holding c.args.keeper.now) (holding c.settle_pending.new.keeper) (holding c.act.new.keeper)
    (readiness c.settle_pending.new.keeper) (readiness c.act.new.keeper)
    c.in-Ok.ensures.settles.0 c.in-Ok.ensures.settles.1 c.in-Ok.ensures.same c.today-day.ensures c.in-Ok.ensures.settles.2
    c.in-Ok.ensures.leaves.stands.held c.act.ensures.leaves.stands.held c.args.steps.now c.act.new.steps c.act.result
    (subst (λ (e : Entry). Acts e mid new c.act.result) c.on.ensures c.act.ensures.acts)
    (subst
    (λ (e : Entry). c.act.new.steps ≤ c.args.steps.now + (command_cost mid.register.entries e + judging_cost (judged_for mid.refs) mid.register.entries e))
    c.on.ensures c.act.ensures.steps)

pub returns-in-Err-clause-outcome : goal.returns-in-Err-clause-outcome
returns-in-Err-clause-outcome g c =
    stops_within c.args.sent.drafter c.args.sent.request c.args.sent.command (g.C.Clock.days c.args.clock.now)
    c.args.book.now c.settle_pending.new.book c.args.steps.now c.in-Err.fault c.in-Err.ensures.settles
