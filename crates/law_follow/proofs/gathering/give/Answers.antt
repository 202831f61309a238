-- The keeper is given all payloads, and has them or the first of them.
use Rattle.std.proofs.Common.{◌<◌, sym, subst, refl, ℕ, List, length, Ok, Vec}
use Rattle.std.specs.declared.alloc.Global.{Global}
use Rattle.law_keeper.specs.Keepers.{AppendsAll, LeavesFront, IsWithFront, bytes_of}
use Rattle.law_follow.specs.Batches.{AreSized}
use Rattle.law_follow.proofs.Giving.{all_given, given_cause, given_fault, some_given}
use Rattle.law_follow.proofs.gathering.give.Goals as goal

pub append_all-requires-clause-ready : goal.append_all-requires-clause-ready
append_all-requires-clause-ready g c = c.requires.held.held.ready refl

pub append_all-requires-clause-some : goal.append_all-requires-clause-some
append_all-requires-clause-some g c =
    subst (λ (l : List (Vec ℕ Global)). 0 < length l) (sym c.as_slice.ensures.value) c.requires.some

pub append_all-requires-clause-sizes : goal.append_all-requires-clause-sizes
append_all-requires-clause-sizes g c = subst AreSized (sym c.as_slice.ensures.value) c.requires.held.sizes

pub returns-in-Ok-clause-held : goal.returns-in-Ok-clause-held
returns-in-Ok-clause-held g c =
    let holding = g.K.Keeper.holding in
    let readiness = g.K.Keeper.readiness in
    all_given (holding c.args.keeper.now) (holding c.append_all.new.self) (readiness c.args.keeper.now) (readiness c.append_all.new.self)
    c.args.replica.now _ c.args.batch.now c.clear.new.self c.in-Ok.end
    (subst (λ (l : List (Vec ℕ Global)). AppendsAll (bytes_of l) (holding c.args.keeper.now) (holding c.append_all.new.self) (Ok c.in-Ok.end))
    c.as_slice.ensures.value c.in-Ok.ensures.appended)
    c.append_all.ensures.settled c.in-Ok.ensures.ready refl refl c.clear.ensures

pub returns-in-Ok-clause-list : goal.returns-in-Ok-clause-list
returns-in-Ok-clause-list g c = λ told.
    let holding = g.K.Keeper.holding in
    subst (λ (l : List (Vec ℕ Global)). IsWithFront (holding c.args.keeper.now).list (bytes_of l) (holding c.append_all.new.self).list)
    c.as_slice.ensures.value
    (some_given (holding c.args.keeper.now).list (bytes_of c.as_slice.result.now) (Ok c.in-Ok.end) (holding c.append_all.new.self).list
    (c.in-Ok.ensures.appended.list told))

pub returns-in-Ok-clause-crash : goal.returns-in-Ok-clause-crash
returns-in-Ok-clause-crash g c =
    let holding = g.K.Keeper.holding in
    subst (λ (l : List (Vec ℕ Global)). LeavesFront (bytes_of l) (holding c.args.keeper.now) (holding c.append_all.new.self))
    c.as_slice.ensures.value c.append_all.ensures.crash

pub returns-in-Err-clause-list : goal.returns-in-Err-clause-list
returns-in-Err-clause-list g c = λ told.
    let holding = g.K.Keeper.holding in
    subst (λ (l : List (Vec ℕ Global)). IsWithFront (holding c.args.keeper.now).list (bytes_of l) (holding c.append_all.new.self).list)
    c.as_slice.ensures.value (c.in-Err.ensures.appended.list told)

pub returns-in-Err-clause-crash : goal.returns-in-Err-clause-crash
returns-in-Err-clause-crash g c =
    let holding = g.K.Keeper.holding in
    subst (λ (l : List (Vec ℕ Global)). LeavesFront (bytes_of l) (holding c.args.keeper.now) (holding c.append_all.new.self))
    c.as_slice.ensures.value c.append_all.ensures.crash

pub returns-in-Err-clause-fault : goal.returns-in-Err-clause-fault
returns-in-Err-clause-fault g c = rw c.from.ensures (given_fault c.in-Err.fault)

pub returns-in-Err-clause-cause : goal.returns-in-Err-clause-cause
returns-in-Err-clause-cause g c =
    rw c.from.ensures
    (given_cause (g.K.Keeper.holding c.args.keeper.now) (g.K.Keeper.faults c.args.keeper.now) (g.K.Keeper.faults c.append_all.new.self) c.in-Err.fault
    c.in-Err.ensures.cause)
