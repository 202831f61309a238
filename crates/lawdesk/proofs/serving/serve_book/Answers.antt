-- The office that is closed is the one that was opened, with what was served over it.
use mir.Syntax.{named}
use denote.Exit.{no}
use denote.Param.{param}
use denote.Param.Send.{arg_send, param_send}
use denote.Ref.{NamedLft}
use Rattle.std.proofs.Common.{◌∙◌, ap, get_or, subst, sym, ℕ, List}
use Rattle.law_office.proofs.Sends.{office_send}
use Rattle.law_office.specs.Offices.{RoseWith, Spells, pending_of}
use Rattle.law_office.specs.Opening.{opened_of}
use Rattle.law_register.specs.Desk.States.{IsFoundOf}
use Rattle.lawdesk.proofs.ServingRuns.{serves_gates}
use Rattle.lawdesk.proofs.serving.serve_book.Goals as goal

pub returns : goal.returns
returns g c =
    let lent =
    c.close-keeper.ensures.names ∙ c.serve_gates-desk.ensures.origin ∙ c.new-office.ensures.origin in
    let kept = c.keeper-1.given.1 (sym (ap (λ (names : List ℕ). get_or names 0 0) lent)) in
    let ticked = c.clock-1.given.1 (sym (ap (λ (names : List ℕ). get_or names 1 0) lent)) in
    let began = ap (λ (names : List ℕ). get_or names 2 0) lent in
    let closed = c.serve_gates-desk.result.desk in
    serves_gates g.G.Conn.Link.left g.G.Conn.Link.written g.G.Conn.Link.read_faults g.G.Conn.Link.write_faults g.G.Gate.tally g.G.Gate.faults
    g.K.Keeper.holding g.K.Keeper.faults g.C.Clock.days _ _ _ _ _ _ _ _ _ _ _ _ c.new-office.result closed
    c.new-office.ensures.entries (c.new-office.ensures.marks ∙ c.requires.no_marks) c.front-front.ensures
    c.serve_gates-desk.ensures.served (kept ∙ c.close-keeper.ensures.keeper) (ticked ∙ c.close-keeper.ensures.clock)
    (subst (λ (k : g.row.K.Denot). (g.K.Keeper.holding k).tells
    → Spells closed.entries closed.pending (g.K.Keeper.holding k).list) (sym kept) c.close-keeper.ensures.list)
    (subst (λ (k : g.row.K.Denot). (g.K.Keeper.holding k).tells
    → IsFoundOf closed.entries closed.pending (opened_of (g.K.Keeper.holding k).list))
    (sym kept) c.close-keeper.ensures.found)
    (subst (λ (k : g.row.K.Denot). RoseWith closed.marks (g.K.Keeper.faults c.args.keeper.now) (g.K.Keeper.faults k)) (sym kept)
    (subst (λ (m : ℕ). RoseWith closed.marks m (g.K.Keeper.faults c.close-keeper.result.keeper.now)) began c.close-keeper.ensures.faults))
    c.faulted-faulted.ensures

pub serve_gates-desk-requires-send-D : goal.serve_gates-desk-requires-send-D
serve_gates-desk-requires-send-D g c κs outlive =
    let κ : NamedLft = record { mir = named 6; lft = κs.1.1.1.1.1.1.0 } in
    let ℓ : NamedLft = record { mir = named 7; lft = κs.1.1.1.1.1.1.1.0 } in
    param_send _ _ (arg_send _ no _ (office_send κ ℓ (param 1 g.row.K) (param 2 g.row.C) g.K.Keeper g.C.Clock c.type_bounds.send-K c.type_bounds.send-C))
