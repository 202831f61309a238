-- The office that is closed is the one that was opened, with what was served over it.
use Rattle.std.proofs.Common.{◌∙◌, ap, get_or, subst, sym, ℕ, List}
use Rattle.law_refs.specs.OfRegister.{IsIndexOf}
use Rattle.law_office.specs.Offices.{Spells, later_of, pending_of}
use Rattle.law_office.specs.Opening.{opened_of}
use Rattle.law_register.specs.Desk.States.{IsFoundOf}
use Rattle.lawdesk.proofs.Streamed.{serves_over}
use Rattle.lawdesk.proofs.batching.serve_book.Goals as goal

pub returns-clause-served : goal.returns-clause-served
returns-clause-served g c =
    let lent =
    c.close-keeper.ensures.names ∙ c.serve_desk-served.ensures.origin ∙ c.new-office.ensures.origin in
    let kept = c.keeper-1.given.1 (sym (ap (λ (names : List ℕ). get_or names 0 0) lent)) in
    let ticked = c.clock-1.given.1 (sym (ap (λ (names : List ℕ). get_or names 1 0) lent)) in
    let closed = c.serve_desk-served.new.desk in
    serves_over g.S.Source.left g.W.Sink.written g.K.Keeper.holding g.K.Keeper.faults g.C.Clock.days
    g.met.K.Keeper.is_holding c.args.book c.args.keeper.now c.args.clock.now _ c.requires.right c.requires.held
    c.requires.none_pending c.new-office.result
    (record {
      keeper_is = c.new-office.ensures.keeper;
      clock_is = c.new-office.ensures.clock;
      entries_are = c.new-office.ensures.entries;
      none_pending = c.new-office.ensures.pending ∙ ap pending_of c.requires.none_pending;
      no_marks = c.new-office.ensures.marks ∙ c.requires.no_marks;
      no_past = c.new-office.ensures.past ∙ c.requires.no_past;
      refs_are = subst (IsIndexOf c.args.book.register.entries) (sym c.new-office.ensures.refs) (c.requires.right).refs;
      none_later = c.new-office.ensures.later ∙ ap (later_of c.args.book.refs) c.requires.none_pending;
    })
    _ _ _ _ _ _ _ _ _ closed c.serve_desk-served.ensures.served (kept ∙ c.close-keeper.ensures.keeper)
    (ticked ∙ c.close-keeper.ensures.clock)
    (subst (λ (k : g.row.K.Denot). (g.K.Keeper.holding k).tells
    → Spells closed.entries closed.pending (g.K.Keeper.holding k).list) (sym kept) c.close-keeper.ensures.list)
    (subst (λ (k : g.row.K.Denot). (g.K.Keeper.holding k).tells
    → IsFoundOf closed.entries closed.pending (opened_of (g.K.Keeper.holding k).list))
    (sym kept) c.close-keeper.ensures.found)
