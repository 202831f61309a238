use Rattle.std.proofs.Common.{◌≡◌, ◌+◌, ◌≤◌, sym, subst, List, [], Result}
use Rattle.std.specs.Map.{keys_of}
use Rattle.law_register.specs.declared.desk.damage.Damage.{Damage}
use Rattle.law_register.specs.declared.register.entry.Entry.{Entry}
use Rattle.law_office.specs.Opening.{cost_opened}
use Rattle.law_office.proofs.Booked.{caused, holds, none_pending, opens_then, spends, spends_none, spends_refused, stays}
use Rattle.law_office.proofs.book.Book.open.Goals as goal

pub returns-in-Ok-clause-opened : goal.returns-in-Ok-clause-opened
returns-in-Ok-clause-opened g c = λ told.
    opens_then c.book_of.result _ c.in-Ok.opened.register (c.in-Ok.ensures.opened told) c.book_of.ensures.memory c.book_of.ensures.register

pub returns-in-Ok-clause-held : goal.returns-in-Ok-clause-held
returns-in-Ok-clause-held g c =
    holds c.book_of.result (g.K.Keeper.holding c.open.new.keeper) (g.K.Keeper.readiness c.open.new.keeper) c.in-Ok.opened.register c.in-Ok.opened.end
    c.in-Ok.ensures.held c.book_of.ensures.register c.book_of.ensures.end
    (none_pending c.book_of.result (λ book. book.marks.items ≡ []) (λ book. keys_of book.past ≡ []) c.book_of.ensures.new)

pub returns-in-Ok-clause-cause : goal.returns-in-Ok-clause-cause
returns-in-Ok-clause-cause g c = caused c.book_of.result _ _ c.in-Ok.ensures.cause c.book_of.ensures.memory

pub returns-in-Ok-clause-stays : goal.returns-in-Ok-clause-stays
returns-in-Ok-clause-stays g c = λ told. stays c.book_of.result _ _ c.in-Ok.ensures.cause c.book_of.ensures.memory

pub returns-in-Ok-clause-steps : goal.returns-in-Ok-clause-steps
returns-in-Ok-clause-steps g c = λ told.
    subst (λ (f : Result (List Entry) Damage). c.book_of.new.steps ≤ c.args.steps.now + cost_opened f) (sym (c.in-Ok.ensures.opened told))
    c.book_of.ensures.steps

pub returns-in-Ok-clause-steps_opened : goal.returns-in-Ok-clause-steps_opened
returns-in-Ok-clause-steps_opened g c =
    spends c.book_of.result c.in-Ok.opened.register c.args.steps.now c.book_of.new.steps c.book_of.ensures.steps c.book_of.ensures.register

pub returns-in-Ok-clause-steps_refused : goal.returns-in-Ok-clause-steps_refused
returns-in-Ok-clause-steps_refused g c =
    spends_refused c.book_of.result (g.K.Keeper.holding c.args.keeper.now) c.args.steps.now c.book_of.new.steps
    (λ told. subst (λ (f : Result (List Entry) Damage). c.book_of.new.steps ≤ c.args.steps.now + cost_opened f) (sym (c.in-Ok.ensures.opened told))
    c.book_of.ensures.steps)
    c.book_of.ensures.memory

pub returns-in-Err-clause-steps_refused : goal.returns-in-Err-clause-steps_refused
returns-in-Err-clause-steps_refused g c = spends_none (g.K.Keeper.holding c.args.keeper.now) c.args.steps.now c.in-Err.fault
