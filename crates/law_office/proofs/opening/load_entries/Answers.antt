use Rattle.std.proofs.Common.{rules, ◌≡◌, ◌∙◌, sym, ap, subst, List, [], ◌∷◌, ◌++◌, ℕ, Option, Ok, Err, refl}
use Rattle.std.proofs.lemmas.Result.{err_from_is_err_and}
use Rattle.law_journal.specs.Journals.{read_into}
use Rattle.law_keeper.specs.Keepers.{Gives, HasReadCause}
use Rattle.law_keeper.specs.declared.readiness.Readiness.{Readiness}
use Rattle.law_register.specs.declared.register.entry.Entry.{Entry}
use Rattle.law_office.specs.Opening.{opened, spellings, with_payload, Refuses}
use Rattle.law_office.proofs.Openings.{opened_behind_them}
use Rattle.law_office.proofs.Loading.{HasOpened, opened_none, keeps_then, loads_more, opens_more, opens_all, spells_all, ends_there, opens_refused, opens_fault, payload_cause, refused_stays, same_stays}
use Rattle.law_office.proofs.opening.load_entries.Goals as goal

pub walk-init : goal.walk-init
walk-init g c =
    let h = g.K.Keeper.holding c.args.keeper.now in
    record {
      opened = subst (λ (entries : List Entry). HasOpened h h 0 entries) (sym c.requires.none) (opened_none h (g.met.K.Keeper.is_holding c.args.keeper.now) c.requires.settled);
      opens = subst (λ (entries : List Entry). opened (spellings entries) ≡ Ok entries) (sym c.requires.none) refl;
      settled = search rules;
      ready = search rules;
      same_count = search rules;
    }

pub returns-in_err-next-clause-opened : goal.returns-in_err-next-clause-opened
returns-in_err-next-clause-opened g c =
    let holding = g.K.Keeper.holding in
    let p = err_from_is_err_and c.from_residual.result c.from_residual.ensures.1 in
    rw (p.1, p.2)
    (opens_refused (holding c.args.keeper.now) (holding c.walk.keeper) (holding c.load.new.self) c.walk.end c.walk.register.entries c.walk.invariant.opened
    c.in_err-next.field-0.0 c.walk.invariant.settled c.in_err-next.ensures.given)

pub returns-in_err-next-clause-same : goal.returns-in_err-next-clause-same
returns-in_err-next-clause-same g c = keeps_then _ _ _ c.walk.invariant.opened.walked.keeps c.in_err-next.ensures.same

pub returns-in_err-add_payload-clause-same : goal.returns-in_err-add_payload-clause-same
returns-in_err-add_payload-clause-same g c = keeps_then _ _ _ c.walk.invariant.opened.walked.keeps c.in_ok-next.ensures.same

pub returns-clause-same : goal.returns-clause-same
returns-clause-same g c = keeps_then _ _ _ c.walk.invariant.opened.walked.keeps c.in_ok-next.ensures.same

pub returns-in_err-add_payload-clause-opened : goal.returns-in_err-add_payload-clause-opened
returns-in_err-add_payload-clause-opened g c =
    let holding = g.K.Keeper.holding in
    let entry : List ℕ × ℕ = (c.load.new.into.items, c.in-Some.next) in
    let given = subst (λ (o : Option ℕ). Gives (holding c.walk.keeper) c.walk.end (holding c.load.new.self) (read_into c.load.new.into.items (Ok o))) c.in-Some.is c.in_ok-next.ensures.given in
    let p = err_from_is_err_and c.from_residual-in_err-add_payload.result c.from_residual-in_err-add_payload.ensures.1 in
    rw (p.1, p.2)
    (opens_fault (holding c.args.keeper.now) (holding c.walk.keeper) (holding c.load.new.self) c.walk.end c.walk.register.entries c.walk.invariant.opened
    entry c.in_err-add_payload.field-0.0 c.walk.invariant.settled given
    (subst (λ (bytes : List ℕ). Refuses c.in_err-add_payload.field-0.0 (with_payload c.walk.register.entries bytes)) c.as_slice.ensures.value c.in_err-add_payload.ensures.adds))

pub walk-preserved : goal.walk-preserved
walk-preserved g c =
    let holding = g.K.Keeper.holding in
    let entry : List ℕ × ℕ = (c.load.new.into.items, c.in-Some.next) in
    let given = subst (λ (o : Option ℕ). Gives (holding c.walk.keeper) c.walk.end (holding c.load.new.self) (read_into c.load.new.into.items (Ok o))) c.in-Some.is c.in_ok-next.ensures.given in
    let adds = ap (with_payload c.walk.register.entries) (sym c.as_slice.ensures.value) ∙ c.in_ok-add_payload.ensures.adds in
    let spelled = subst (λ (bytes : List ℕ). spellings c.add_payload.new.register.entries ≡ spellings c.walk.register.entries ++ bytes ∷ []) c.as_slice.ensures.value c.in_ok-add_payload.ensures.spelled in
    record {
      opened = opens_more (holding c.args.keeper.now) (holding c.walk.keeper) (holding c.load.new.self) c.walk.end c.walk.register.entries c.walk.invariant.opened
          entry c.add_payload.new.register.entries c.walk.invariant.settled c.in_ok-next.ensures.same given c.in_ok-next.ensures.crash
          adds spelled;
      opens = opened_behind_them c.walk.register.entries c.add_payload.new.register.entries entry.0 c.walk.invariant.opens adds spelled;
      settled = search rules;
      ready = search rules;
      same_count = search rules;
    }

pub returns-clause-opened : goal.returns-clause-opened
returns-clause-opened g c =
    let holding = g.K.Keeper.holding in
    opens_all (holding c.args.keeper.now) (holding c.walk.keeper) (holding c.load.new.self) c.walk.end c.walk.register.entries c.walk.invariant.opened c.walk.invariant.settled
    (subst (λ (o : Option ℕ). Gives (holding c.walk.keeper) c.walk.end (holding c.load.new.self) (read_into c.load.new.into.items (Ok o))) c.in_default.is c.in_ok-next.ensures.given)

pub returns-in_err-add_payload-clause-cause : goal.returns-in_err-add_payload-clause-cause
returns-in_err-add_payload-clause-cause g c =
    let p = err_from_is_err_and c.from_residual-in_err-add_payload.result c.from_residual-in_err-add_payload.ensures.1 in
    rw (p.1, p.2)
    (payload_cause ℕ _ _ c.in_err-add_payload.field-0.0 c.in_err-add_payload.ensures.refuses (c.in_ok-next.ensures.cause ∙ c.walk.invariant.same_count))

pub returns-in_err-next-clause-stays : goal.returns-in_err-next-clause-stays
returns-in_err-next-clause-stays g c =
    let holding = g.K.Keeper.holding in
    let p = err_from_is_err_and c.from_residual.result c.from_residual.ensures.1 in
    rw (p.1, p.2)
    (refused_stays (holding c.args.keeper.now) (holding c.walk.keeper) (holding c.load.new.self) c.walk.end c.walk.register.entries c.walk.invariant.opened
    _ _ _ c.in_err-next.field-0.0 c.walk.invariant.settled c.in_err-next.ensures.given
    (subst (λ (r : Readiness). HasReadCause {T = Option ℕ} r (g.K.Keeper.faults c.walk.keeper) (g.K.Keeper.faults c.load.new.self) (Err c.in_err-next.field-0.0))
    c.walk.invariant.ready c.in_err-next.ensures.cause)
    c.walk.invariant.same_count)

pub returns-in_err-add_payload-clause-stays : goal.returns-in_err-add_payload-clause-stays
returns-in_err-add_payload-clause-stays g c =
    let p = err_from_is_err_and c.from_residual-in_err-add_payload.result c.from_residual-in_err-add_payload.ensures.1 in
    rw (p.1, p.2)
    (λ told. same_stays _ _ c.in_err-add_payload.field-0.0 (c.in_ok-next.ensures.cause ∙ c.walk.invariant.same_count))

pub returns-clause-held : goal.returns-clause-held
returns-clause-held g c =
    let holding = g.K.Keeper.holding in
    let given = subst (λ (o : Option ℕ). Gives (holding c.walk.keeper) c.walk.end (holding c.load.new.self) (read_into c.load.new.into.items (Ok o))) c.in_default.is c.in_ok-next.ensures.given in
    record {
      opened = search rules;
      ready = λ none. c.in_ok-next.ensures.ready;
      settled = c.in_ok-next.ensures.settled;
      list = spells_all (holding c.args.keeper.now) (holding c.walk.keeper) (holding c.load.new.self) c.walk.end c.walk.register.entries c.walk.invariant.opened c.walk.invariant.settled c.in_ok-next.ensures.same given;
      durable = tt;
      end = ends_there (holding c.args.keeper.now) (holding c.walk.keeper) (holding c.load.new.self) c.walk.end c.walk.register.entries c.walk.invariant.opened c.in_ok-next.ensures.same;
    }

pub returns-in_err-next-clause-crash : goal.returns-in_err-next-clause-crash
returns-in_err-next-clause-crash g c = loads_more _ _ _ _ _ c.walk.invariant.opened c.in_err-next.ensures.crash

pub returns-in_err-add_payload-clause-crash : goal.returns-in_err-add_payload-clause-crash
returns-in_err-add_payload-clause-crash g c = loads_more _ _ _ _ _ c.walk.invariant.opened c.in_ok-next.ensures.crash

pub returns-clause-crash : goal.returns-clause-crash
returns-clause-crash g c = loads_more _ _ _ _ _ c.walk.invariant.opened c.in_ok-next.ensures.crash
